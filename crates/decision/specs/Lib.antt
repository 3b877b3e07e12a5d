-- What an event comes to, by what it sees.
pub mod Accepting
pub mod Changes
pub mod Prelude
