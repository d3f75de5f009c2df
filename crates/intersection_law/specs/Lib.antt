-- Intersection numbers and the coefficients of volumes, read off a series, and the equations that those of the named structures meet.
pub mod Numbers
pub mod Equations
pub mod Examples
