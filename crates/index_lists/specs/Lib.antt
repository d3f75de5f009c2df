pub mod Listing
pub mod Measures
pub mod Parts
pub mod Rests
pub mod SplitLists
