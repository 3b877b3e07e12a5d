-- The names from outside that this crate's definitions and proofs use, passed on by one module.
pub use Rattle.std.specs.Prelude.{Err, Ok, Result, ◌*◌, ◌+◌, ◌-◌, ◌<◌, ◌≤◌, min, ℕ, Bool, ◌||◌, cond, false, true, List, [], ◌++◌, ◌∷◌, ◌≡◌, refl, eqb, ltb, drop, length, take}
pub use Rattle.std.proofs.lemmas.Bool.{false≢true, eqb-false, lt-leb}
pub use Rattle.std.proofs.Common.{append_assoc, append-nil, ◌∙◌, ap, subst, sym, add-zero, zero-add, arith, rules, eqb-true, le-leb, ltb-false, ltb-true, drop_of_length-le, length-append, length-drop, length-take-le, take_all}
pub use Rattle.std.proofs.Math.Nat.{sub-zero}
pub use Rattle.laws.specs.BoolLaws.{or_clear}
pub use Rattle.laws.specs.Cases.{Outcome, fine, refused}
unfoldable pub use Rattle.laws.specs.Cases.{first, leaves, outcome}
pub use Rattle.laws.specs.Determined.{determined}
pub use Rattle.laws.specs.Front.{Wrote}
pub use Rattle.laws.specs.FrontLaws.{laid_front, then, wrote_length, wrote_none}
unfoldable pub use Rattle.laws.specs.Lists.{all, count}
unfoldable pub use Rattle.laws.specs.Sets.{below, inside, meet, meets, union, without}
pub use Rattle.decimal.specs.Determined.{text_determined}
pub use Rattle.decimal.specs.Text.{ascii}
unfoldable pub use Rattle.decimal.specs.Text.{text}
pub use Rattle.event.specs.declared.clock.Tick.{Tick}
pub use Rattle.event.specs.declared.events.Entry.{Entry}
pub use Rattle.event.specs.declared.events.Event.{Event}
pub use Rattle.event.specs.declared.events.Event.TheVariants.{Ask, Beat, Complete, Open}
unfoldable pub use Rattle.rows.specs.Line.{keep, lined, place, under}
unfoldable pub use Rattle.rows.specs.Order.{ahead, distinct, in_way}
unfoldable pub use Rattle.rows.specs.Sweep.{settled, woken}
pub use Rattle.arbiter.specs.Answers.{said_of}
unfoldable pub use Rattle.arbiter.specs.Meaning.{answer, next, start_answer, start_table}
unfoldable pub use Rattle.arbiter.specs.Sound.{sound}
pub use Rattle.arbiter.specs.declared.table.Next.{Next}
pub use Rattle.arbiter.specs.declared.table.Table.{Table}
pub use Rattle.going.specs.Going.{Went}
pub use Rattle.going.specs.declared.Gone.{Gone}
pub use Rattle.lines.specs.Lines.{Word, no, ok, waits}
unfoldable pub use Rattle.lines.specs.Lines.{end_line, items, line, word_for, word_text}
pub use Rattle.lines.specs.Promises.{line_room}
unfoldable pub use Rattle.lines.specs.Promises.{word_from}
pub use Rattle.record.specs.Format.{decode, size}
pub use Rattle.record.specs.FormatLaws.{decode_length}
pub use Rattle.recording.specs.Recording.{readings}
unfoldable pub use Rattle.recording.specs.Recording.{place_after}
pub use Rattle.recording.proofs.RecordingLaws.{drop_place, length_readings, place_moves, readings_append, readings_cons, readings_nil, readings_some, take_place}
pub use Rattle.stage.specs.Promises.{Begins, Judges, first_in, goes_on}
pub use Rattle.stage.specs.Stages.{by_stage, ended, stage_after, stage_after_first}
unfoldable pub use Rattle.stage.specs.Stages.{table_after, word}
pub use Rattle.stage.specs.declared.Stage.{Stage}
pub use Rattle.stage.specs.declared.Stage.TheVariants.{First, Going, Over}
pub use Rattle.listing.specs.declared.replay.NotTaken.{NotTaken}
pub use Rattle.listing.specs.declared.replay.NotTaken.TheVariants.{Full, NoRoom}
pub use Rattle.listing.specs.declared.replay.Replay.{Replay}
