-- What a recording comes to, record by record.
pub mod Follow
pub mod FollowLaws
pub mod Prelude
pub mod Promises
pub mod Visits
