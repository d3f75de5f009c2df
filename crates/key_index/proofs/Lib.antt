pub mod CodeLemmas
mod FoundLemmas
