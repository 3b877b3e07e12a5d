-- Lemmas that the proofs share.
pub mod Backwards
