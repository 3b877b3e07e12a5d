-- Text, and numbers in decimal.
pub mod Determined
pub mod Prelude
pub mod Text
pub mod TextLaws
