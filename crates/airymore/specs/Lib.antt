-- What the words of a run mean, and what it then writes and answers.
pub mod Places
pub mod Brackets
pub mod Quick
pub mod Curves
pub mod Documents
pub mod Verify
pub mod Run
pub mod Laws
