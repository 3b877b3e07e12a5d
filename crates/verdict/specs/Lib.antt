-- Why an event is refused.
pub mod Verdicts
