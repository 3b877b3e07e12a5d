-- The names from outside that this crate's definitions and proofs use, passed on by one module.
pub use Rattle.std.specs.Prelude.{◌%◌, ◌+◌, ◌-◌, ◌/◌, ◌<◌, ◌^◌, ◌≤◌, min, suc, zero, ℕ, Bool, ◌&&◌, ◌||◌, cond, false, not, true, List, [], ◌++◌, ◌∷◌, map, ◌↔◌, ◌≡◌, refl, eqb, leb, ltb, drop, get_or, length, set, take}
pub use Rattle.std.proofs.Math.Bool.{and_assoc, and_comm, and-eq-true_iff, and-or_distrib_left, and_self, and_self_left, and-true, or_comm, or-false, or_self}
pub use Rattle.std.proofs.lemmas.Bool.{false≢true, eqb-false, lt-leb, not-false, not-true}
pub use Rattle.std.proofs.Common.{true≢false, append_assoc, append-nil, ◌∙◌, ap, sym, add_assoc, add_comm, add-sub_of_le, add-zero, le-add_right, le_antisymm, le-div_iff_mul-le, le_of_suc-le-suc, lt_irrefl, lt_of_lt_of_le, mod-lt, not-suc-le-zero, zero-add, add-one, arith, below_more, rules, eq-eqb, eqb-true, le-leb, lt-ltb, ltb-false, ltb-true, ne_eqb, drop_of_length-le, length-append, length-drop, take-append-drop, pow_mono, pow_pos, shr-shr, drop_at, drop-cons, drop-drop, get_or-set_other, get_or-set_same, length-take-le, take_all, take_at}
unfoldable pub use Rattle.std.proofs.Math.Bool.{xor}
pub use Rattle.std.proofs.Math.Path.{fun_ext}
pub use Rattle.std.proofs.Math.Decide.{dec_le}
pub use Rattle.std.proofs.Math.Nat.{div-eq_of_lt, zero-div}
pub use Rattle.std.proofs.Math.Arith.{bin_ind, le-zero}
pub use Rattle.std.proofs.lemmas.Nat.{and_le_l, and_le_r, and_mod, and_shr, or_mod, or_shr, xor_mod, xor_shr}
pub use Rattle.std.specs.Int.Bits.{bit_and, bit_or, bit_xor, or_add_and, xor_add_and}
pub use Rattle.std.proofs.Math.Seq.{append_snoc, drop-append-add, drop-length, take-append-add, take-length}
pub use Rattle.std.proofs.lemmas.List.{drop-append-le, set_split, take-append-le, take-set-le}
