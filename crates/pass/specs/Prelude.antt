-- The names from outside that this crate's definitions and proofs use, passed on by one module.
pub use Rattle.std.specs.Prelude.{◌+◌, ◌<◌, ◌≤◌, suc, zero, ℕ, Bool, ◌&&◌, ◌||◌, false, not, true, List, [], ◌∷◌, ◌≡◌, refl, eqb, leb, ltb, get_or, length}
pub use Rattle.std.proofs.Common.{suc-le-suc, ◌∙◌, ap, sym, le_of_suc-le-suc, not-suc-le-zero, zero-add, zero-lt-suc, arith, eq-eqb, eqb-true, le-leb, leb-true, lt-ltb, ltb-false, ltb-true, ne_eqb}
pub use Rattle.std.proofs.Math.Bool.{and-eq-true_iff, and-false, and-true, or-true}
pub use Rattle.std.proofs.lemmas.Bool.{false≢true}
pub use Rattle.std.proofs.Math.Path.{fun_ext}
pub use Rattle.std.proofs.Math.Decide.{ℕ_discrete}
pub use Rattle.std.proofs.Math.Arith.{le-zero}
pub use Rattle.laws.specs.BoolLaws.{and_left, and_right, denied, implying, same}
pub use Rattle.laws.specs.Bools.{bit, implies}
pub use Rattle.laws.specs.Counts.{all_each, each_all}
pub use Rattle.laws.specs.HoldLaws.{nth}
pub use Rattle.laws.specs.Lists.{holds}
unfoldable pub use Rattle.laws.specs.Lists.{all, count}
pub use Rattle.laws.specs.SetLaws.{below_reads, member_empty, member_union}
pub use Rattle.laws.specs.Sets.{below, meets, member, union}
pub use Rattle.rows.specs.InLine.{count_line, lined_in_turn}
pub use Rattle.rows.specs.Known.{token_by}
pub use Rattle.rows.specs.KnownLaws.{token_by_lem}
pub use Rattle.rows.specs.Line.{line, row_of, under}
pub use Rattle.rows.specs.LineLaws.{each_cons, each_head, each_none, each_tail}
pub use Rattle.rows.specs.Order.{ahead, blocked, idle, live}
unfoldable pub use Rattle.rows.specs.Order.{distinct}
pub use Rattle.rows.specs.Propositions.{Each}
unfoldable pub use Rattle.rows.specs.Propositions.{InTurn}
pub use Rattle.rows.specs.Stand.{behind, front}
pub use Rattle.rows.specs.declared.row.Row.{Row}
pub use Rattle.rows.specs.declared.stand.Standing.{Standing}
pub use Rattle.line.specs.Along.{Along}
pub use Rattle.line.specs.AlongLaws.{along_stands, along_start, along_step}
pub use Rattle.line.specs.LineInCode.{Lines}
pub use Rattle.line.specs.declared.Line.{Line}
pub use Rattle.soundness.specs.Beside.{beside_by, sound_in, zeroed}
unfoldable pub use Rattle.soundness.specs.Beside.{sound_by}
pub use Rattle.soundness.specs.BesideLaws.{row_beside}
pub use Rattle.soundness.specs.Conditions.{counters, idle_conditions, ranges}
pub use Rattle.soundness.specs.declared.Bounds.{Bounds}
pub use Rattle.walk.specs.Walk.{Found, Walks}
unfoldable pub use Rattle.walk.specs.Walk.{walks}
pub use Rattle.walk.specs.declared.Place.{Place}
