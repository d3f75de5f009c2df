pub mod Items
pub mod Entries
pub mod Grades
pub mod Puts
pub mod Rows
pub mod Parts
