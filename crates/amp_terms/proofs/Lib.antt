pub mod TableLemmas
pub mod SummingLemmas
pub mod NamedLemmas
pub mod FillingLemmas
pub mod OutcomeLemmas
pub mod BlockedLemmas
pub mod TestLemmas
