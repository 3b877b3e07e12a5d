-- Laws that the proofs of single functions need.
mod Answered
mod Midway
