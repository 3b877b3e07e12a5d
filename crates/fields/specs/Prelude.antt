-- The names from outside that this crate's definitions and proofs use, passed on by one module.
pub use Rattle.std.specs.Prelude.{◌%◌, ◌*◌, ◌+◌, ◌-◌, ◌/◌, ◌<◌, ◌^◌, ◌≤◌, suc, zero, ℕ, List, [], ◌++◌, ◌∷◌, ◌≡◌, refl, drop, get_or, length, set, take}
pub use Rattle.std.proofs.Common.{append_assoc, append-nil, ◌∙◌, ap, sym, add_comm, add-zero, lt_of_lt_of_le, mod-eq_of_lt, mod-lt, mul_assoc, mul-le-mul_left, one-mul, suc-add, zero-add, add-one, one-add, arith, rules, drop_of_length-le, length-append, length-drop, length-set, length-take, take-append-drop, pow-add, pow_mono, pow_pos, shl_exact, shr_lt, shr-shr, drop_at, drop-cons, drop-drop, length-take-le, take-add, take_at}
pub use Rattle.std.proofs.Math.Nat.{mod-one, mul-add-div_right, mul-add-mod_self_right, pow-succ', sub-zero}
pub use Rattle.std.proofs.Math.Arith.{digits_lt}
pub use Rattle.std.proofs.lemmas.List.{length-replicate, drop-append-le, take-append-le}
pub use Rattle.std.proofs.Math.Pow.{high}
pub use Rattle.std.proofs.lemmas.Nat.{mod-pow-add}
pub use Rattle.std.proofs.Math.Seq.{drop-append-add, drop-nil}
pub use Rattle.laws.specs.Determined.{determined}
unfoldable pub use Rattle.laws.specs.Front.{laid, over}
pub use Rattle.laws.specs.FrontLaws.{laid_front, laid_laid, laid_left, laid_none, laid_one, laid_right}
