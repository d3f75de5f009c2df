-- The text of tensors: its grammar, its canonical form, and what reading and writing promise.
pub mod Lines
pub mod Values
pub mod Grammar
pub mod Canonical
pub mod Pieces
pub mod Answers
pub mod Steps
pub mod Examples
