-- What the contracts of this crate say.
pub mod Counting
pub mod Prelude
pub mod Sheet
pub mod SheetLaws
