pub mod CertifiedLaw
pub mod NumberLemmas
pub mod UnreducedLemmas
