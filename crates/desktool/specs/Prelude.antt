-- The names from outside that this crate's proofs use, passed on by one module.
pub use Rattle.std.proofs.Common.{arith}
pub use Rattle.recording.proofs.RecordingLaws.{place_moves}
