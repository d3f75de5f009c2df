pub mod Crossing
pub mod CurveCuts
pub mod CurveLaw
pub mod NamedLaw
pub mod Sequences
