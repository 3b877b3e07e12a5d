-- What is said of events that may wake others.
pub mod Determined
pub mod Leaving
pub mod Passing
pub mod PassingLaws
pub mod Prelude
pub mod Steady
pub mod SteadyLaws
pub mod Sweeping
pub mod SweptLaws
pub mod Walking
pub mod WalkingLaws
pub mod Written
pub mod WrittenLaws
