-- What the calls mean: document 01, from "What a table holds" to "Refusal numbers".
pub mod Answers
pub mod Bounded
pub mod ChangeLaws
pub mod Determined
pub mod Effects
pub mod Meaning
pub mod OwnRow
pub mod Prelude
pub mod Promises
pub mod Readings
pub mod RefusalLaws
pub mod Refusals
pub mod Sound
