-- The names from outside that this crate's definitions and proofs use, passed on by one module.
pub use Rattle.std.specs.Prelude.{◌*◌, ◌+◌, ◌-◌, ◌<◌, ◌^◌, ◌≤◌, ℕ, Bool, Err, Ok, Result, cond, false, true, List, [], ◌++◌, ◌∷◌, ◌≡◌, refl, drop, length, set, take}
pub use Rattle.std.proofs.lemmas.Bool.{false≢true}
pub use Rattle.std.proofs.Common.{append_assoc, append-nil, ◌∙◌, ap, subst, sym, arith, rules, leb-false, drop_of_length-le, length-drop, length-set}
pub use Rattle.std.proofs.lemmas.List.{set-get_or}
pub use Rattle.laws.specs.CaseLaws.{acceptance_tells, leaves_same}
pub use Rattle.laws.specs.Cases.{Outcome, fine, refused}
unfoldable pub use Rattle.laws.specs.Cases.{leaves, outcome}
pub use Rattle.laws.specs.Determined.{determined}
pub use Rattle.laws.specs.Front.{Wrote}
unfoldable pub use Rattle.laws.specs.Front.{over}
pub use Rattle.laws.specs.FrontLaws.{then, wrote_length, wrote_none}
pub use Rattle.decimal.specs.Determined.{text_determined}
pub use Rattle.event.specs.Events.{about, job_of}
pub use Rattle.event.specs.Limits.{jobs}
pub use Rattle.event.specs.Refusals.{number_of}
pub use Rattle.event.specs.declared.events.Entry.{Entry}
pub use Rattle.event.specs.declared.events.Event.{Event}
pub use Rattle.event.specs.declared.events.Parts.{Parts}
pub use Rattle.event.specs.declared.refusal.Refusal.{Refusal}
pub use Rattle.rows.specs.Order.{ahead, idle}
pub use Rattle.rows.specs.Stand.{Stands}
pub use Rattle.rows.specs.declared.row.Row.{Row}
unfoldable pub use Rattle.soundness.specs.Beside.{sound_by}
pub use Rattle.soundness.specs.declared.Bounds.{Bounds}
pub use Rattle.line.specs.declared.Line.{Line}
pub use Rattle.sweep.specs.Sweeping.{Acts, Onward, Settles, Swept}
pub use Rattle.upkeep.specs.Upkeep.{Appended, Removed}
pub use Rattle.arbiter.proofs.Answering.{accepted_answers_into, refused_answers_into}
pub use Rattle.arbiter.specs.Answers.{said_of}
pub use Rattle.decision.specs.Accepting.{saw_sound}
pub use Rattle.arbiter.proofs.Carrying.{changes_answer, long_cases, may_act, settling_does, writes_onward}
pub use Rattle.arbiter.specs.Bounded.{bounds_of}
pub use Rattle.arbiter.specs.ChangeLaws.{Decides, change_on, sound_by_lem, sound_last}
pub use Rattle.decision.specs.Changes.{refusal_cases}
pub use Rattle.arbiter.specs.Meaning.{moved, wakes}
unfoldable pub use Rattle.arbiter.specs.Meaning.{answer, listed, next}
pub use Rattle.arbiter.specs.Promises.{AnsweredInto}
pub use Rattle.arbiter.specs.Refusals.{cases, seen_in}
pub use Rattle.arbiter.specs.Sound.{row_in, sound}
pub use Rattle.decision.specs.declared.deciding.Change.{Change}
pub use Rattle.arbiter.specs.declared.table.Next.{Next}
pub use Rattle.arbiter.specs.declared.table.Table.{Table}
pub use Rattle.kept.specs.Accepted.{next_accepted}
pub use Rattle.kept.specs.Soundness.{next_sound}
pub use Rattle.kept.specs.Words.{Accepts}
pub use Rattle.lines.specs.Lines.{Word, word_for}
unfoldable pub use Rattle.lines.specs.Lines.{lines}
pub use Rattle.lines.specs.Promises.{line_room}
unfoldable pub use Rattle.lines.specs.Promises.{word_from}
pub use Rattle.lines.specs.WordLaws.{word_answer}
pub use Rattle.record.specs.Format.{decode, size}
pub use Rattle.record.specs.RoundTrip.{read_job}
pub use Rattle.recording.specs.Recording.{place_after, readings}
pub use Rattle.recording.proofs.RecordingLaws.{drop_place, place_moves, readings_cons, readings_nil, take_place}
pub use Rattle.going.specs.declared.Gone.{Gone}
