-- The names from outside that this crate's definitions and proofs use, passed on by one module.
pub use Rattle.std.specs.Prelude.{◌-◌, ◌<◌, ◌≤◌, ℕ, not, List, ◌≡◌, refl, get_or, length, take}
pub use Rattle.std.proofs.Common.{◌∙◌, ap, subst, sym, zero-add, arith, le-ltb, lt-ltb}
pub use Rattle.std.proofs.lemmas.Bool.{not-false}
pub use Rattle.laws.specs.CaseLaws.{leaves_is, outcome_is}
pub use Rattle.laws.specs.Cases.{fine, keep_unless, unless}
pub use Rattle.laws.specs.Chains.{First, none, past, this}
pub use Rattle.laws.specs.Front.{Wrote, over}
pub use Rattle.laws.specs.FrontLaws.{laid_front, wrote_length}
pub use Rattle.laws.specs.Determined.{determined}
pub use Rattle.event.specs.Refusals.{outcome_of}
pub use Rattle.event.specs.Limits.{jobs}
pub use Rattle.event.specs.declared.refusal.Refusal.{Refusal}
pub use Rattle.event.proofs.AnswerLaws.{outcome_determined}
pub use Rattle.decimal.specs.TextLaws.{length_text_u64}
pub use Rattle.rows.specs.InLine.{length_lined_le, line_below}
pub use Rattle.rows.specs.Line.{line, row_of}
pub use Rattle.rows.specs.declared.row.Row.{Row}
pub use Rattle.line.specs.LineInCode.{Lines}
pub use Rattle.soundness.specs.declared.Bounds.{Bounds}
pub use Rattle.pass.specs.Pass.{Surveyed}
pub use Rattle.arbiter.specs.Bounded.{bounds_of}
pub use Rattle.arbiter.specs.ChangeLaws.{sound_by_lem}
pub use Rattle.arbiter.specs.Sound.{sound}
pub use Rattle.arbiter.specs.declared.table.Table.{Table}
pub use Rattle.lines.specs.Lines.{items}
pub use Rattle.lines.specs.PieceLaws.{Pieces, Putting, item_pieces, putting_all, putting_length, putting_more, putting_none, then}
