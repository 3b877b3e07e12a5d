-- The names from outside that this crate's definitions and proofs use, passed on by one module.
pub use Rattle.std.specs.Prelude.{◌*◌, ◌+◌, ◌-◌, ◌<◌, ◌≤◌, ℕ, Bool, ◌&&◌, ◌||◌, false, not, true, List, [], ◌++◌, ◌∷◌, map, ◌≡◌, refl, drop, length, replicate, set, take, eqb, ltb}
pub use Rattle.std.proofs.Math.Bool.{and_assoc, and-true, or_assoc, or-false}
pub use Rattle.std.proofs.Common.{◌∙◌, ap, subst, sym, arith, eq-eqb, le-ltb, lt-ltb, ne_eqb, length-drop, length-set, drop-drop, take_all, take_at}
pub use Rattle.std.proofs.Math.Nat.{sub-zero}
pub use Rattle.std.proofs.lemmas.Bool.{not-false}
pub use Rattle.std.proofs.lemmas.List.{length-replicate}
pub use Rattle.laws.specs.CaseLaws.{acceptance_tells, clear, leaves_is, outcome_is, refusal_tells}
pub use Rattle.laws.specs.Cases.{fine, keep_unless, refused, unless}
unfoldable pub use Rattle.laws.specs.Cases.{case, first, leaves, outcome}
pub use Rattle.laws.specs.Chains.{First, none, past, this}
unfoldable pub use Rattle.laws.specs.Front.{over}
unfoldable pub use Rattle.laws.specs.Lists.{any}
pub use Rattle.event.specs.Limits.{jobs}
pub use Rattle.event.specs.Refusals.{number_of, outcome_of, refusing}
pub use Rattle.event.specs.declared.refusal.Refusal.{Refusal}
pub use Rattle.event.specs.declared.refusal.Refusal.TheVariants.{BitSet, UnsoundTable}
pub use Rattle.rows.specs.Line.{row_of}
pub use Rattle.rows.specs.Order.{idle, live}
pub use Rattle.rows.specs.declared.row.Row.{Row}
pub use Rattle.soundness.specs.Beside.{sound_by}
pub use Rattle.soundness.specs.declared.Bounds.{Bounds}
pub use Rattle.arbiter.specs.Answers.{said_of, says_done}
pub use Rattle.arbiter.specs.Determined.{same_next}
pub use Rattle.arbiter.specs.Meaning.{no_table}
pub use Rattle.arbiter.specs.Sound.{sound}
pub use Rattle.arbiter.specs.declared.table.Next.{Next}
pub use Rattle.arbiter.specs.declared.table.Table.{Table}
pub use Rattle.service.specs.declared.format.FileHead.{FileHead}
pub use Rattle.service.specs.declared.format.FileRow.{FileRow}
