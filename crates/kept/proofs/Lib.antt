-- That tables from an accepted start are sound.
pub mod Soundness
