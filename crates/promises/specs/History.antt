-- What is said of whole histories of events.
pub mod Words
