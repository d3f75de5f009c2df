pub mod Closing
pub mod Exact
pub mod Examples
pub mod Families
pub mod Steps
