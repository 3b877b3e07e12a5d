-- The names from outside that this crate's definitions and proofs use, passed on by one module.
pub use Rattle.std.specs.Prelude.{◌%◌, ◌*◌, ◌+◌, ◌-◌, ◌/◌, ◌<◌, ◌≤◌, ℕ, List, ◌≡◌, refl, length, set, take}
pub use Rattle.std.proofs.Common.{◌∙◌, ap, sym, add-one, arith, length-set, take-suc-set}
pub use Rattle.std.proofs.Math.Nat.{mul-add-mod_self_right}
pub use Rattle.std.proofs.Math.Seq.{take-length}
pub use Rattle.laws.specs.ListLaws.{Filled, filled_more}
pub use Rattle.event.specs.Limits.{jobs}
pub use Rattle.rows.specs.Order.{idle}
