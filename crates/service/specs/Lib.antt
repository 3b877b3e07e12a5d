-- What a service file is, and what reading and writing its parts promise.
pub mod FieldsIn
pub mod File
pub mod FileLaws
pub mod PlacedLaws
pub mod Placing
pub mod PlacingLaws
pub mod Prelude
pub mod Promises
pub mod SoundLaws
pub mod Worked
