-- What the contracts of this crate say, and the laws of true time and of events.
pub mod Answers
pub mod Clock
pub mod ClockLaws
pub mod EventLaws
pub mod Events
pub mod Limits
pub mod Prelude
pub mod RefusalLaws
pub mod Refusals
