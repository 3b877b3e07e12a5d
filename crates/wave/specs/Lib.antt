-- What the contracts of this crate say.
pub mod Prelude
pub mod Trace
pub mod Views
