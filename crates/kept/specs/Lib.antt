-- What an accepted event does, that soundness is kept, and what holds of every sound table.
pub mod Accepted
pub mod Changes
pub mod Decisions
pub mod Events
pub mod GivenUp
pub mod Named
pub mod Prelude
pub mod Rows
pub mod Sound
pub mod Soundness
pub mod Woken
pub mod Words
