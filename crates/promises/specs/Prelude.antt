-- The names from outside that this crate uses, passed on by one module; those of `kept` are cited from there.
pub use Rattle.std.specs.Prelude.{◌+◌, ◌-◌, ◌<◌, ◌≤◌, suc, zero, ℕ, Bool, ◌&&◌, ◌||◌, cond, false, not, true, List, [], ◌++◌, ◌∷◌, map, ◌≡◌, refl, eqb, leb, ltb, get_or, length, replicate, set}
pub use Rattle.std.proofs.Math.Bool.{and-false, and-not_self, and-true}
pub use Rattle.std.proofs.lemmas.Bool.{false≢true, eqb-false, not-true}
pub use Rattle.std.proofs.Common.{true≢false, ◌∙◌, ap, ap₂, subst, sym, le_antisymm, lt_irrefl, zero-add, arith, eq-eqb, eqb-true, le-leb, le-ltb, leb-true, lt-ltb, ltb-false, ltb-true, ne_eqb, ext_get_or, get_or-set_same}
pub use Rattle.std.proofs.lemmas.Simd.{map-map}
pub use Rattle.std.proofs.Math.Path.{fun_ext}
pub use Rattle.std.proofs.Math.ListN.{get_or-map as List·getD-map}
pub use Rattle.std.proofs.lemmas.List.{length-map, length-replicate}
pub use Rattle.laws.specs.BoolLaws.{and_left, and_right, either, same}
pub use Rattle.laws.specs.Bools.{bit}
pub use Rattle.laws.specs.CaseLaws.{acceptance_tells, first_front}
pub use Rattle.laws.specs.Cases.{Case, Outcome, fine, keep_unless, refused, unless, when}
unfoldable pub use Rattle.laws.specs.Cases.{case, first, leaves, outcome}
pub use Rattle.laws.specs.Counts.{count_mono, count_sum}
unfoldable pub use Rattle.laws.specs.Front.{over}
pub use Rattle.laws.specs.GoneLaws.{gone_none}
unfoldable pub use Rattle.laws.specs.Lists.{all, count, gone}
pub use Rattle.laws.specs.SetLaws.{inside_reads, meets_comm, meets_inside, meets_reads, meets_without, union_empty, without_apart, without_inside, without_lost, without_none, without_twice}
unfoldable pub use Rattle.laws.specs.Sets.{below, inside, meet, meets, union, without}
pub use Rattle.laws.specs.Sets.{member}
pub use Rattle.event.specs.Clock.{clock_refusals, difference, gone_back, leapt, time_spent}
unfoldable pub use Rattle.event.specs.Clock.{forward}
pub use Rattle.event.specs.Events.{about, refusals_of, has_job, job_of, names, opens, set_of, tick_of}
pub use Rattle.event.specs.Limits.{highest, jobs}
pub use Rattle.event.proofs.RefusalLaws.{some_first}
pub use Rattle.event.specs.Refusals.{among, cases_by, number_of, refusing}
pub use Rattle.event.specs.declared.clock.Tick.{Tick}
pub use Rattle.event.specs.declared.events.Event.TheVariants.{Ask, Beat, Complete, GiveUp, Open, Release}
pub use Rattle.event.specs.declared.refusal.Refusal.{Refusal}
pub use Rattle.event.specs.declared.refusal.Refusal.TheVariants.{AlreadyHeld, AlreadyLive, BadStart, BitSet, ClockGoneBack, ClockLeap, EmptySet, NoSuchJob, NoSuchResource, NoToken, NotDeclared, NotHeld, NotLive, ShortList, StartOutOfPlace, StillWaiting, TimeSpent, TurnsSpent, UnknownKind, UnknownVersion, UnsoundTable, WrongLength, WrongSize}
pub use Rattle.rows.specs.InLine.{lined_in_turn, listed_once}
pub use Rattle.rows.specs.InWay.{ahead_mono, in_way_ahead}
unfoldable pub use Rattle.rows.specs.Line.{keep, lined, place, under}
pub use Rattle.rows.specs.Line.{line, row_of}
unfoldable pub use Rattle.rows.specs.Order.{ahead, distinct, in_way}
pub use Rattle.rows.specs.Order.{blocked, claims, earlier, idle, live, token, waiting}
pub use Rattle.rows.specs.OrderLaws.{ahead_set, in_way_set}
unfoldable pub use Rattle.rows.specs.Propositions.{InTurn}
pub use Rattle.rows.specs.Sweep.{granted_row, rested_row, swept_row, woke}
unfoldable pub use Rattle.rows.specs.Sweep.{settled, woken}
pub use Rattle.rows.specs.SweepLaws.{ahead_settled, granted_keeps, in_way_settled, swept_idle, swept_keeps, turn_settled}
pub use Rattle.rows.specs.Turns.{earlier_turn, live_within, not_earlier, turn_earlier, waiting_reads}
pub use Rattle.rows.specs.declared.row.Row.{Row}
pub use Rattle.rows.specs.declared.row.Turn.{Turn}
pub use Rattle.arbiter.specs.Answers.{Said, says_done, says_granted, says_token, says_wait, says_woke}
pub use Rattle.arbiter.specs.Meaning.{accepted, last_after, late, moved, opened_row, reported, row_after, rows_after, rows_with, run, said, time_at, wakes}
unfoldable pub use Rattle.arbiter.specs.Meaning.{answer, course, listed, next, overdue, report, start_answer, start_table}
pub use Rattle.arbiter.specs.Refusals.{applies, calling, cases, list_cases, report_cases}
pub use Rattle.arbiter.specs.Sound.{row_in}
unfoldable pub use Rattle.arbiter.specs.Sound.{sound}
pub use Rattle.arbiter.specs.declared.table.Report.{Report}
pub use Rattle.arbiter.specs.declared.table.Table.{Table}
pub use Rattle.record.specs.Format.{encode}
pub use Rattle.request.specs.Change.{giving_up, releasing}
pub use Rattle.questions.specs.Late.{late_job}
unfoldable pub use Rattle.questions.specs.Late.{late_in}
