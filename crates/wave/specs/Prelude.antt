-- The names from outside that this crate's definitions and proofs use, passed on by one module.
pub use Rattle.std.specs.Prelude.{◌+◌, ◌-◌, ◌==◌, ◌^◌, ◌≤◌, ℕ, Result, Ok, Err, if◌then◌else◌, min}
