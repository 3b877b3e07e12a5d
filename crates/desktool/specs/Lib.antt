-- What the contracts of this crate say.
pub mod Following
pub mod Prelude
