-- What is said of calls in place.
pub mod Promises
