-- What the words of a command line mean.
pub mod Lines
pub mod Bounds
pub mod Words
pub mod Scripts
pub mod Options
pub mod Asked
pub mod OptionExamples
pub mod Refusals
pub mod FirstRefused
