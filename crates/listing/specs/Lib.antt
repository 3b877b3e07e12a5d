-- What a replay prints, and what the contracts of this crate say.
pub mod BlockLaws
pub mod Blocks
pub mod Determined
pub mod GoingLaws
pub mod Inner
pub mod LineLaws
pub mod Listing
pub mod Prelude
pub mod Promises
pub mod Worked
