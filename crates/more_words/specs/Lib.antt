-- What the words of the command line of `airymore` mean.
pub mod MoreWords
pub mod Asked
pub mod FirstRefused
pub mod MoreExamples
