-- Laws that only the proofs of functions use.
mod Counting
