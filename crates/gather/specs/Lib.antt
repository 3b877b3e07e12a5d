-- What is said of gathering.
pub mod Gather
pub mod GatherLaws
pub mod Prelude
