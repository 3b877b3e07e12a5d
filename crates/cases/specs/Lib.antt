-- What the contracts of this crate say.
pub mod Calls
pub mod Layout
pub mod Prelude
