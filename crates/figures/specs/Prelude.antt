-- The names from outside that this crate's definitions and proofs use, passed on by one module.
pub use Rattle.std.specs.Prelude.{◌+◌, ◌-◌, ◌^◌, ◌≤◌, ℕ, List, Option, Some, None, Result, Ok, Err, if◌then◌else◌, ◌==◌, fold, get_or, max, min, replicate, set, take}
pub use Rattle.laws.specs.Lists.{count}
pub use Rattle.event.specs.Limits.{jobs}
