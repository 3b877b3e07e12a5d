-- What is kept beside a table while records are listed.
pub mod KeepLaws
pub mod Keeping
pub mod LineLaws
pub mod Prelude
