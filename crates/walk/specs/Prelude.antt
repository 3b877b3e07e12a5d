-- The names from outside that this crate's definitions and proofs use, passed on by one module.
pub use Rattle.std.specs.Prelude.{◌+◌, ◌<◌, ◌≤◌, suc, ℕ, Bool, ◌&&◌, ◌||◌, cond, false, not, true, List, [], ◌∷◌, ◌≢◌, ◌⊎◌, ◌≡◌, refl, eqb, ltb, drop, get_or, length, take}
pub use Rattle.std.proofs.Math.Bool.{and-false, and-true}
pub use Rattle.std.proofs.lemmas.Bool.{false≢true, eqb-false, not-false, not-true}
pub use Rattle.std.proofs.Common.{true≢false, inl, inr, ⊎_elim, ◌∙◌, ap, subst, sym, add-one, arith, eqb-true, lt-ltb, ltb-false, ltb-true, ne_eqb, drop_of_length-le, drop-cons, get_or-take}
pub use Rattle.std.proofs.Math.Arith.{le-zero}
pub use Rattle.laws.specs.BoolLaws.{and_left, not_ltb}
pub use Rattle.laws.specs.Bools.{bit}
pub use Rattle.laws.specs.ListLaws.{any_count}
pub use Rattle.laws.specs.Lists.{holds}
unfoldable pub use Rattle.laws.specs.Lists.{any}
pub use Rattle.laws.specs.Sets.{below, meets}
pub use Rattle.rows.specs.InLine.{length_lined_le, line_below, lined_in_turn, listed_once}
pub use Rattle.rows.specs.Line.{line, row_of, under}
pub use Rattle.rows.specs.LineLaws.{count_keep}
pub use Rattle.rows.specs.Order.{idle, live}
unfoldable pub use Rattle.rows.specs.Propositions.{InTurn}
pub use Rattle.rows.specs.Stand.{Stands, behind, front}
pub use Rattle.rows.specs.declared.row.Row.{Row}
pub use Rattle.rows.specs.declared.stand.Standing.{Standing}
pub use Rattle.line.specs.AlongLaws.{along_stands, along_start, along_step, nobody_before}
pub use Rattle.line.specs.LineInCode.{Lines}
pub use Rattle.line.specs.declared.Line.{Line}
pub use Rattle.soundness.specs.Beside.{beside_by}
pub use Rattle.soundness.specs.declared.Bounds.{Bounds}
pub use Rattle.walk.specs.declared.Pace.{Pace}
