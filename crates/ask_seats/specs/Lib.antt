pub mod Replies
pub mod Sessions
pub mod Lines
pub mod Asks
pub mod Talks
pub mod Carrying
pub mod Counts
pub mod Examples
