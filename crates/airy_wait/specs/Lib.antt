-- Asks that wait for their answers, what the words of a run mean, and what it then writes and answers.
pub mod Waits
pub mod Words
pub mod Asked
pub mod Turns
pub mod Finished
pub mod Waiting
pub mod Run
pub mod Laws
