-- What a run answers and writes: statuses and the lines of refusals, tables and their summaries.
pub mod Report
pub mod Texts
pub mod Inputs
pub mod Relations
pub mod Tables
pub mod Forms
pub mod Leads
pub mod Ends
pub mod Runs
pub mod Promises
pub mod Structures
pub mod StructureTables
pub mod Headline
