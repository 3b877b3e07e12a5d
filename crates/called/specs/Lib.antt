-- What the contracts of this crate say.
pub mod Left
pub mod Lines
