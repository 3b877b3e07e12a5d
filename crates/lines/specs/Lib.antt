-- What a line says, and what the contracts of this crate say.
pub mod Lines
pub mod PieceLaws
pub mod Prelude
pub mod Promises
pub mod Texts
pub mod WordLaws
