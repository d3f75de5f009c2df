pub mod Bulk
pub mod Change
pub mod Draws
pub mod Examples
pub mod Filled
pub mod Full
