-- What a page says, and what the contracts of this crate say.
pub mod Determined
pub mod Meaning
pub mod Page
pub mod Prelude
pub mod Promises
