-- What requests up to a turn live through depends on the rows up to that turn alone.
pub mod Events
pub mod Example
pub mod Holds
pub mod Line
pub mod Rows
pub mod Same
