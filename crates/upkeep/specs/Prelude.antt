-- The names from outside that this crate's definitions and proofs use, passed on by one module.
pub use Rattle.std.specs.Prelude.{◌+◌, ◌-◌, ◌<◌, ◌≤◌, suc, zero, ℕ, Bool, cond, List, [], ◌++◌, ◌∷◌, ◌≢◌, ◌≡◌, refl, eqb, drop, get_or, length, set, take}
pub use Rattle.std.proofs.Common.{◌∙◌, ap, subst, sym, le_of_suc-le-suc, not-suc-le-zero, zero-lt-suc, add-one, arith, rules, eq-eqb, lt-ltb, ne_eqb, drop_of_length-le, length-set, drop-cons, get_or-set_other, get_or-set_same}
pub use Rattle.std.proofs.Math.Decide.{ℕ_discrete}
pub use Rattle.std.proofs.lemmas.Bool.{not-false, not-true}
pub use Rattle.laws.specs.Bools.{bit}
pub use Rattle.laws.specs.Sets.{union}
pub use Rattle.rows.specs.Line.{line, row_of}
unfoldable pub use Rattle.rows.specs.Line.{keep}
pub use Rattle.rows.specs.Order.{ahead, earlier, idle, live}
pub use Rattle.rows.specs.OrderLaws.{ahead_set}
pub use Rattle.rows.specs.Propositions.{Distinct, opening_of}
pub use Rattle.rows.specs.Stand.{Stands, behind, front}
pub use Rattle.rows.specs.Sweep.{settled}
pub use Rattle.rows.specs.SweepLaws.{length_settled, row_settled, swept_keeps, turn_settled}
pub use Rattle.rows.specs.Turns.{at_set, live_within, not_earlier}
pub use Rattle.rows.specs.declared.row.Row.{Row}
pub use Rattle.rows.specs.declared.row.Turn.{Turn}
pub use Rattle.rows.specs.declared.stand.Standing.{Standing}
pub use Rattle.sweep.specs.Leaving.{line_besides, line_turns}
pub use Rattle.sweep.specs.Sweeping.{Onward, ended, settled_rows, stayed}
pub use Rattle.sweep.specs.Walking.{Walk, besides}
pub use Rattle.sweep.specs.WalkingLaws.{line_places, one_place, walk_end, walk_alive, walk_stands, walk_start, walk_step}
