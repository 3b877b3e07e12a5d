-- Laws that the proofs of the functions share.
pub mod Byte
pub mod Places
pub mod Turns
