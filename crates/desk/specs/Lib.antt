-- What is shown of a service file, and what the contracts of this crate say.
pub mod Desk
pub mod Determined
pub mod Prelude
pub mod Promises
pub mod ShowLaws
