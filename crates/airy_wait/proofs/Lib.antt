pub mod ToldLemmas
pub mod RoundLemmas
mod FinishedLemmas
mod FirstLaw
mod KeyLemmas
mod LineLemmas
mod TurnLemmas
mod WaitLemmas
mod SeatLemmas
mod StatusLaw
