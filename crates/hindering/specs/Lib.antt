-- Who is in the way of what a job asked for.
pub mod Determined
pub mod Hindering
pub mod HinderingLaws
pub mod Prelude
pub mod Promises
