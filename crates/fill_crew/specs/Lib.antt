pub mod Levels
pub mod Crews
