-- What holds along whole histories of events.
pub mod Count
pub mod Events
pub mod Partings
pub mod Row
pub mod Time
pub mod Turn
pub mod Woken
