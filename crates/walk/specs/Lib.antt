-- What is said of the walk.
pub mod Pace
pub mod PaceLaws
pub mod Prelude
pub mod Walk
pub mod WalkLaws
