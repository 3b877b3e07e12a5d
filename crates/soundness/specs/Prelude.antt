-- The names from outside that this crate's definitions and proofs use, passed on by one module.
pub use Rattle.std.specs.Prelude.{suc, zero, ◌-◌, ◌^◌, ◌≤◌, ℕ, Bool, ◌&&◌, ◌||◌, cond, false, not, true, [], ◌∷◌, ◌≡◌, refl, eqb, leb, ltb}
pub use Rattle.std.proofs.Math.Bool.{and_assoc, and-false, and-true, or-false, or-true}
pub use Rattle.std.proofs.Common.{◌∙◌, ap, ap₂, sym, arith, rules, eqb-true, le-leb, lt-ltb, ne_eqb}
pub use Rattle.std.specs.Int.Bits.{bit_or}
pub use Rattle.laws.specs.Bools.{implies}
pub use Rattle.laws.specs.BoolLaws.{not_ltb}
unfoldable pub use Rattle.laws.specs.Lists.{all}
pub use Rattle.laws.specs.Lists.{holds}
pub use Rattle.laws.specs.SetLaws.{inside_both, inside_empty, meets_comm, meets_empty, meets_union, union_none}
pub use Rattle.laws.specs.Sets.{below, inside, meets}
unfoldable pub use Rattle.laws.specs.Sets.{union}
pub use Rattle.event.specs.Limits.{highest}
pub use Rattle.rows.specs.Order.{live}
pub use Rattle.rows.specs.declared.row.Row.{Row}
