-- What is said of records after an accepted start.
pub mod Determined
pub mod Going
pub mod Prelude
