-- Lemmas that only the proofs of functions use.
mod Alone
mod First
mod Puts
