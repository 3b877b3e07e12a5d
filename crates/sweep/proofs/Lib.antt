-- Laws that only the proofs of functions use, here and where questions are asked along the line.
pub mod Jobs
mod Midway
mod Turns
pub mod Writing
