-- Laws that only the proofs of functions use.
pub mod Ranges
