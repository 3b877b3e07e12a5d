-- The names from outside that this crate's definitions and proofs use, passed on by one module.
pub use Rattle.std.specs.Prelude.{◌+◌, ◌-◌, ◌<◌, ◌≤◌, suc, zero, ℕ, Bool, ◌&&◌, ◌||◌, false, true, List, [], ◌++◌, ◌∷◌, ◌≡◌, refl, ltb, drop, get_or, length, set, take}
pub use Rattle.std.proofs.Common.{suc-le-suc, ◌∙◌, ap, subst, sym, add_assoc, add-zero, le_of_suc-le-suc, not-suc-le-zero, zero-add, zero-lt-suc, add-one, arith, rules, le-ltb, lt-ltb, ltb-false, ltb-true, length-set, get_or-take, length-take-le}
pub use Rattle.std.proofs.Math.Bool.{and_assoc, or_assoc, or-false}
pub use Rattle.std.proofs.Math.Path.{fun_ext}
pub use Rattle.std.proofs.lemmas.Bool.{not-false, not-true}
pub use Rattle.std.proofs.Math.Seq.{take-set-lt}
pub use Rattle.laws.specs.Bools.{bit}
pub use Rattle.laws.specs.Counts.{count_never}
pub use Rattle.laws.specs.Determined.{determined}
pub use Rattle.laws.specs.ListLaws.{any_count}
unfoldable pub use Rattle.laws.specs.Lists.{any, count}
pub use Rattle.laws.specs.SetLaws.{meets_comm, meets_empty, meets_union}
pub use Rattle.laws.specs.Sets.{inside}
unfoldable pub use Rattle.laws.specs.Sets.{meet, meets, union}
pub use Rattle.event.specs.Limits.{jobs}
pub use Rattle.rows.specs.InLine.{count_line}
pub use Rattle.rows.specs.InWay.{in_way_ahead}
pub use Rattle.rows.specs.Line.{row_of}
unfoldable pub use Rattle.rows.specs.Line.{place}
pub use Rattle.rows.specs.Line.{line}
pub use Rattle.rows.specs.LineLaws.{each_cons, each_head, each_tail}
pub use Rattle.rows.specs.Order.{claims, earlier, live}
unfoldable pub use Rattle.rows.specs.Order.{ahead, in_way}
pub use Rattle.rows.specs.Propositions.{Each}
unfoldable pub use Rattle.rows.specs.Propositions.{InTurn}
pub use Rattle.rows.specs.Stand.{Stands, behind, front}
pub use Rattle.rows.specs.Turns.{not_earlier, turn_earlier}
pub use Rattle.rows.specs.declared.row.Row.{Row}
pub use Rattle.rows.specs.declared.stand.Standing.{Standing}
pub use Rattle.line.specs.declared.Line.{Line}
