pub mod ExactLaw
pub mod NumberLaw
