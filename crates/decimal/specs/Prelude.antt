-- The names from outside that this crate's definitions and proofs use, passed on by one module.
pub use Rattle.std.specs.Prelude.{◌%◌, ◌*◌, ◌+◌, ◌-◌, ◌/◌, ◌<◌, ◌^◌, ◌≤◌, suc, zero, ℕ, List, [], ◌++◌, ◌∷◌, map, ◌≢◌, ◌≡◌, refl, get_or, length, set, take}
pub use Rattle.std.proofs.Common.{append_assoc, append-nil, ◌∙◌, sym, le_refl, mul_assoc, not-suc-le-zero, pow-suc, add-one, arith, rules, drop-drop, le-ltb, lt-ltb, length-append}
pub use Rattle.std.proofs.Math.Decide.{dec_lt}
pub use Rattle.std.proofs.Math.ListN.{get_or-append as List·getD-append}
pub use Rattle.std.proofs.Math.Seq.{append_snoc}
unfoldable pub use Rattle.laws.specs.Front.{laid}
pub use Rattle.laws.specs.Front.{Wrote}
pub use Rattle.laws.specs.FrontLaws.{laid_last, laid_one}
