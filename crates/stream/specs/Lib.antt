-- What the contracts of this crate say.
pub mod Counts
pub mod Prelude
pub mod Printing
