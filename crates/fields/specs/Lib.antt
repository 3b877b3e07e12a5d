-- Values of given widths in a row of bits, and the row in bytes.
pub mod Determined
pub mod DigitLaws
pub mod Digits
pub mod FieldLaws
pub mod Fields
pub mod Packing
pub mod PackingLaws
pub mod Prelude
pub mod Promises
pub mod Worked
