-- The names from outside that this crate's definitions and proofs use, passed on by one module.
pub use Rattle.std.specs.Prelude.{◌+◌, ◌-◌, ◌<◌, ◌≤◌, suc, zero, ℕ, Bool, ◌&&◌, ◌||◌, cond, false, not, true, List, [], ◌∷◌, map, ◌≢◌, ◌⊎◌, ◌≡◌, refl, eqb, ltb, get_or, length, set}
pub use Rattle.std.proofs.Common.{suc-le-suc, true≢false, inl, inr, ◌∙◌, ap, sym, add_comm, add-zero, le_of_suc-le-suc, not-suc-le-zero, zero-add, zero-lt-suc, add-one, arith, rules, eq-eqb, eqb-true, le-ltb, lt-ltb, ltb-false, ltb-true, ne_eqb, get_or-set_other, get_or-set_same}
pub use Rattle.std.proofs.Math.Bool.{and_assoc, and-eq-true_iff, and-false, and-true}
pub use Rattle.std.proofs.lemmas.Bool.{false≢true}
pub use Rattle.std.proofs.Math.Path.{fun_ext}
pub use Rattle.std.proofs.Math.Decide.{ℕ_discrete}
pub use Rattle.std.proofs.Math.Arith.{le-zero}
pub use Rattle.std.proofs.Math.ListN.{get_or-eq_default, get_or-map}
pub use Rattle.std.proofs.lemmas.List.{length-map}
pub use Rattle.laws.specs.BoolLaws.{and_left, either}
pub use Rattle.laws.specs.Bools.{bit}
pub use Rattle.laws.specs.Counts.{all_each, count_and_true, count_at, count_every, count_mono, count_some, each_all}
pub use Rattle.laws.specs.Determined.{determined}
pub use Rattle.laws.specs.ListLaws.{Passed, all_map, count_le, count_map, count_set, passed_all, passed_more, passed_none}
unfoldable pub use Rattle.laws.specs.Lists.{all, count}
pub use Rattle.laws.specs.Reads.{Reads}
pub use Rattle.laws.specs.ReadsLaws.{reading}
pub use Rattle.laws.specs.SetLaws.{ext, inside_reads, meets_reads, member_empty, member_union, member_without}
pub use Rattle.laws.specs.Sets.{inside, member, without}
unfoldable pub use Rattle.laws.specs.Sets.{meets, union}
pub use Rattle.event.specs.Limits.{jobs}
pub use Rattle.rows.specs.declared.row.Row.{Row}
pub use Rattle.rows.specs.declared.stand.Standing.{Standing}
