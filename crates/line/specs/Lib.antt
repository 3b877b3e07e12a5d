-- What is said of lines of jobs.
pub mod Along
pub mod AlongLaws
pub mod Determined
pub mod LineInCode
pub mod Placing
pub mod PlacingLaws
pub mod Prelude
