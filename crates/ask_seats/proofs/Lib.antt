pub mod Names
pub mod ReplyLemmas
pub mod PlaceLemmas
pub mod SpeakLemmas
pub mod TalkLemmas
pub mod SessionLemmas
pub mod SeatLemmas
pub mod FrontLemmas
