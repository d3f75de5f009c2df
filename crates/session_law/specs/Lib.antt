-- What a session writes, and what it shows.
pub mod Sessions
