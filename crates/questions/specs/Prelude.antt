-- The names from outside that this crate's definitions and proofs use, passed on by one module.
pub use Rattle.std.specs.Prelude.{◌+◌, ◌-◌, ◌<◌, ◌≤◌, ℕ, Bool, ◌&&◌, ◌||◌, false, not, true, List, ◌≡◌, refl, leb, ltb, get_or, length, take}
pub use Rattle.std.proofs.Math.Bool.{and_assoc, and_comm}
pub use Rattle.std.proofs.Common.{◌∙◌, ap, subst, sym, add-zero, arith, le-leb, lt-ltb, ltb-false, ltb-true, drop_of_length-le}
pub use Rattle.std.proofs.Math.Path.{fun_ext}
pub use Rattle.std.proofs.lemmas.Bool.{lt-leb}
pub use Rattle.laws.specs.Bools.{bit}
pub use Rattle.laws.specs.ListLaws.{Passed, passed_all, passed_le, passed_more, passed_none}
pub use Rattle.laws.specs.Lists.{count}
pub use Rattle.laws.specs.Sets.{meets}
pub use Rattle.rows.specs.InLine.{count_line}
pub use Rattle.rows.specs.Line.{line, row_of}
unfoldable pub use Rattle.rows.specs.Line.{keep}
pub use Rattle.rows.specs.Order.{live, waiting}
unfoldable pub use Rattle.rows.specs.Order.{in_way}
pub use Rattle.rows.specs.Propositions.{Distinct}
pub use Rattle.rows.specs.declared.row.Row.{Row}
pub use Rattle.line.specs.LineInCode.{Listed}
pub use Rattle.request.specs.Going.{late_since}
pub use Rattle.sweep.specs.SteadyLaws.{sound_distinct, sound_limit}
pub use Rattle.sweep.specs.WalkingLaws.{line_places}
