-- Intersection numbers and volumes from a table: the divisions, the terms of a volume and their order, and what they say of every solution.
pub mod Divisions
pub mod Numbers
pub mod Volumes
pub mod Laws
pub mod Kept
