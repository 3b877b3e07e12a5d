-- The names from outside that this crate's definitions and proofs use, passed on by one module.
pub use Rattle.std.specs.Prelude.{◌*◌, ◌+◌, ◌-◌, ◌<◌, ◌≤◌, suc, ℕ, not, true, List, [], ◌++◌, ◌∷◌, ◌≡◌, refl, drop, get_or, length, take}
pub use Rattle.std.proofs.Common.{◌∙◌, ap, sym, zero-add, add-one, arith, le-ltb, lt-ltb, drop_of_length-le, length-drop, drop-cons, length-take, length-take-le}
pub use Rattle.std.proofs.lemmas.Bool.{not-false}
pub use Rattle.laws.specs.CaseLaws.{leaves_is, outcome_is}
pub use Rattle.laws.specs.Cases.{fine, keep_unless, unless}
pub use Rattle.laws.specs.Chains.{First, past, this}
pub use Rattle.laws.specs.Determined.{determined}
unfoldable pub use Rattle.laws.specs.Front.{laid, over}
pub use Rattle.laws.specs.FrontLaws.{laid_front, laid_laid, laid_none, laid_part, length_laid}
pub use Rattle.fields.specs.PackingLaws.{length_pack}
pub use Rattle.event.specs.Refusals.{outcome_of}
pub use Rattle.event.specs.Limits.{jobs}
pub use Rattle.event.specs.declared.refusal.Refusal.{Refusal}
pub use Rattle.event.proofs.AnswerLaws.{outcome_determined}
pub use Rattle.rows.specs.Line.{row_of}
pub use Rattle.rows.specs.declared.row.Row.{Row}
pub use Rattle.soundness.specs.Beside.{sound_by}
pub use Rattle.soundness.specs.declared.Bounds.{Bounds}
pub use Rattle.arbiter.specs.declared.table.Table.{Table}
