-- The names from outside that this crate's definitions and proofs use, passed on by one module.
pub use Rattle.std.specs.Prelude.{◌+◌, ◌-◌, ◌<◌, ◌^◌, ◌≤◌, suc, zero, ℕ, Bool, ◌&&◌, ◌||◌, cond, false, not, true, List, [], ◌++◌, ◌∷◌, ◌≢◌, ◌⊎◌, ◌≡◌, refl, eqb, leb, ltb, drop, get_or, length, set, take}
pub use Rattle.std.proofs.Math.Bool.{and-false, and-true, or_comm}
pub use Rattle.std.proofs.Common.{append-nil, inl, inr, ⊎_elim, ◌∙◌, ap, subst, sym, add-zero, le_antisymm, le_of_suc-le-suc, not-suc-le-zero, add-one, arith, eq-eqb, eqb-true, le-ltb, leb-true, lt-ltb, ltb-false, ltb-true, ne_eqb, drop_of_length-le, length-set, take-append-drop, drop-cons, drop-drop, drop-set-lt, ext_get_or, get_or-set_other, get_or-set_same, length-take-le, take-suc-set}
pub use Rattle.std.proofs.Math.Decide.{ℕ_discrete}
pub use Rattle.std.proofs.Math.Arith.{le-zero}
pub use Rattle.std.proofs.Math.Seq.{append_snoc}
pub use Rattle.std.proofs.lemmas.List.{set-get_or}
pub use Rattle.laws.specs.BoolLaws.{and_left, and_right, denied, either, implied}
pub use Rattle.laws.specs.Bools.{bit}
pub use Rattle.laws.specs.Counts.{all_each}
unfoldable pub use Rattle.laws.specs.Front.{over}
pub use Rattle.laws.specs.HoldLaws.{nth}
pub use Rattle.laws.specs.Lists.{holds}
unfoldable pub use Rattle.laws.specs.Lists.{all}
pub use Rattle.laws.specs.SetLaws.{union_empty}
pub use Rattle.laws.specs.Sets.{below, union}
pub use Rattle.event.specs.Limits.{jobs, most}
pub use Rattle.rows.specs.InLine.{length_lined_le, line_below, lined_below, lined_in_turn}
pub use Rattle.rows.specs.InWay.{ahead_mono, in_way_empty}
pub use Rattle.rows.specs.Line.{line, row_of}
unfoldable pub use Rattle.rows.specs.Line.{keep, lined, place, under}
pub use Rattle.rows.specs.LineLaws.{each_head, each_tail}
pub use Rattle.rows.specs.Order.{ahead, blocked, distinct, earlier, idle, live, waiting}
unfoldable pub use Rattle.rows.specs.Order.{in_way}
pub use Rattle.rows.specs.OrderLaws.{ahead_set}
pub use Rattle.rows.specs.Propositions.{Distinct, Each}
unfoldable pub use Rattle.rows.specs.Propositions.{InTurn}
pub use Rattle.rows.specs.Stand.{Stands, behind, front}
pub use Rattle.rows.specs.Sweep.{rested_row, swept_row, woke}
unfoldable pub use Rattle.rows.specs.Sweep.{settled, woken}
pub use Rattle.rows.specs.SweepLaws.{ahead_settled, length_settled, row_settled, swept_idle, turn_settled}
pub use Rattle.rows.specs.Turns.{at_set, distinct_rows, distinct_set, live_within, not_earlier, turn_earlier, waiting_reads}
pub use Rattle.rows.specs.declared.row.Row.{Row}
pub use Rattle.rows.specs.declared.row.Turn.{Turn}
pub use Rattle.rows.specs.declared.stand.Standing.{Standing}
pub use Rattle.line.specs.AlongLaws.{along_end, along_stands, along_start, along_step}
pub use Rattle.line.specs.LineInCode.{Lines, Listed}
pub use Rattle.line.specs.declared.Line.{Line}
pub use Rattle.request.specs.Going.{goes_on, wakes_by}
pub use Rattle.soundness.specs.Beside.{beside_by, sound_in}
unfoldable pub use Rattle.soundness.specs.Beside.{sound_by}
pub use Rattle.soundness.specs.BesideLaws.{row_beside}
pub use Rattle.soundness.specs.Conditions.{counters, idle_conditions, ranges}
pub use Rattle.soundness.specs.declared.Bounds.{Bounds}
