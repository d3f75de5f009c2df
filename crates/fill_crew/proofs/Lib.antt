pub mod NextLemmas
pub mod Lows
pub mod CrewLemmas
