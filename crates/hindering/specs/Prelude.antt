-- The names from outside that this crate's definitions and proofs use, passed on by one module.
pub use Rattle.std.specs.Prelude.{◌-◌, ◌<◌, ◌≤◌, ℕ, ◌&&◌, not, true, List, Result, Err, Ok, ◌≡◌, ltb, get_or, length}
pub use Rattle.std.proofs.Common.{◌∙◌, ap, subst, sym, le-leb, le-ltb, lt-ltb}
pub use Rattle.std.proofs.lemmas.Bool.{lt-leb}
pub use Rattle.laws.specs.CaseLaws.{leaves_is, outcome_is, refusal_tells}
pub use Rattle.laws.specs.Cases.{fine, outcome, refused}
pub use Rattle.laws.specs.Chains.{First, none, past, this}
pub use Rattle.laws.specs.Counts.{count_and_true, count_every}
pub use Rattle.laws.specs.Determined.{determined}
pub use Rattle.laws.specs.Front.{over}
pub use Rattle.event.proofs.AnswerLaws.{outcome_determined}
pub use Rattle.event.specs.Refusals.{number_of}
pub use Rattle.event.specs.declared.refusal.Refusal.{Refusal}
pub use Rattle.event.specs.declared.refusal.Refusal.TheVariants.{NoSuchJob, NotLive, ShortList, UnsoundTable}
pub use Rattle.rows.specs.Line.{line}
unfoldable pub use Rattle.rows.specs.Line.{keep}
pub use Rattle.rows.specs.LineLaws.{count_keep}
pub use Rattle.rows.specs.Order.{blocked, in_way, live}
pub use Rattle.rows.specs.declared.row.Row.{Row}
pub use Rattle.line.specs.LineInCode.{Listed}
pub use Rattle.request.specs.declared.seen.Seen.{Seen}
pub use Rattle.questions.specs.InCode.{claims_ahead}
pub use Rattle.questions.specs.QuestionLaws.{in_way_line}
pub use Rattle.pass.specs.Pass.{Surveyed}
pub use Rattle.arbiter.specs.Bounded.{bounds_of}
pub use Rattle.arbiter.specs.ChangeLaws.{seen_by_lem, sound_by_lem}
pub use Rattle.arbiter.specs.Sound.{row_in, sound}
pub use Rattle.arbiter.specs.declared.table.Table.{Table}
pub use Rattle.arbiter.proofs.Surveys.{surveyed_by}
