-- What loading means, and what the contracts of this crate say.
pub mod Determined
pub mod LoadingLaws
pub mod Meaning
pub mod Prelude
pub mod Promises
pub mod ReadBack
pub mod Taking
