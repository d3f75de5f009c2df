pub mod BulkLaw
pub mod ChangeLemmas
pub mod DiagonalLemmas
pub mod FilledLemmas
pub mod FullLemmas
