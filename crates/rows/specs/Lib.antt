-- What is said of rows: document 01, "What a table holds" and "The events".
pub mod Determined
pub mod InLine
pub mod InWay
pub mod Known
pub mod KnownLaws
pub mod Line
pub mod LineLaws
pub mod Order
pub mod OrderLaws
pub mod Prelude
pub mod Propositions
pub mod Stand
pub mod Sweep
pub mod SweepLaws
pub mod Turns
