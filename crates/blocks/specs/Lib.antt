-- What the contracts of this crate say.
pub mod BlockLaws
pub mod Promises
