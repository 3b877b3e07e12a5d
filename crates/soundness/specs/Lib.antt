-- What is said of sound numbers and rows.
pub mod Beside
pub mod BesideLaws
pub mod Conditions
pub mod Prelude
