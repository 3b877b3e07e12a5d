-- What is said of a line and of declared sets that are kept up to date.
pub mod Prelude
pub mod Removing
pub mod Upkeep
pub mod UpkeepLaws
