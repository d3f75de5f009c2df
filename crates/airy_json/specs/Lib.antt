-- The JSON document of a table: how it is written, what reading it gives, and what its values are found to be.
pub mod Document
pub mod Examples
pub mod Given
pub mod Reading
pub mod Steps
pub mod Written
pub mod Verifying
pub mod Verified
