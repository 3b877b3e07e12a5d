-- The names from outside that this crate's proofs use, passed on by one module.
pub use Rattle.std.specs.Prelude.{ℕ, refl, Bool, Err, Ok, Result, not, true, List, ◌≡◌, length}
pub use Rattle.std.proofs.Common.{◌∙◌, ap, subst, sym, rules, le-leb, le-ltb, lt-ltb}
pub use Rattle.std.proofs.lemmas.Bool.{lt-leb, not-false}
pub use Rattle.laws.specs.CaseLaws.{acceptance_tells, outcome_is, outcome_past, refusal_tells}
pub use Rattle.laws.specs.Cases.{fine, outcome, refused}
pub use Rattle.laws.specs.Chains.{none, past, this}
pub use Rattle.laws.specs.Front.{over}
pub use Rattle.event.specs.Events.{job_of}
pub use Rattle.event.specs.Refusals.{number_of, outcome_of}
pub use Rattle.event.specs.declared.events.Event.{Event}
pub use Rattle.event.specs.declared.events.Event.TheVariants.{Beat}
pub use Rattle.event.specs.declared.refusal.Refusal.{Refusal}
pub use Rattle.event.specs.declared.refusal.Refusal.TheVariants.{ShortList}
pub use Rattle.rows.specs.Known.{waiting_by}
pub use Rattle.rows.specs.KnownLaws.{waiting_by_lem}
pub use Rattle.rows.specs.Order.{in_way, live}
pub use Rattle.rows.specs.declared.row.Row.{Row}
pub use Rattle.line.specs.LineInCode.{Listed}
pub use Rattle.soundness.specs.Beside.{sound_by}
pub use Rattle.soundness.specs.declared.Bounds.{Bounds}
pub use Rattle.request.specs.declared.seen.Seen.{Seen}
pub use Rattle.grounds.specs.Refusals.{time_from}
pub use Rattle.questions.specs.Late.{late_in}
pub use Rattle.pass.specs.Pass.{Known, Surveyed}
pub use Rattle.pass.specs.declared.known.Survey.{Survey}
pub use Rattle.decision.specs.Accepting.{judged, saw_sound}
pub use Rattle.decision.specs.Changes.{refusal_cases}
pub use Rattle.arbiter.specs.Bounded.{bounds_of}
pub use Rattle.arbiter.specs.ChangeLaws.{seen_by_lem, sound_by_lem, survey_tells}
pub use Rattle.arbiter.specs.Meaning.{late, reported, time_at}
unfoldable pub use Rattle.arbiter.specs.Meaning.{overdue, overdue_list, report}
pub use Rattle.arbiter.specs.Promises.{OverdueAnswered}
pub use Rattle.arbiter.specs.Refusals.{overdue_cases, seen_in}
pub use Rattle.arbiter.specs.Sound.{row_in, sound}
pub use Rattle.arbiter.specs.declared.table.Report.{Report}
pub use Rattle.arbiter.specs.declared.table.Table.{Table}
pub use Rattle.arbiter.proofs.Surveys.{surveyed_by}
