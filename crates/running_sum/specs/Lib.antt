pub mod Certified
pub mod Kept
pub mod Sizes
pub mod Weights
pub mod Words
