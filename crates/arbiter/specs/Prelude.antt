-- The names from outside that this crate's definitions and proofs use, passed on by one module.
pub use Rattle.std.specs.Prelude.{◌+◌, ◌<◌, ◌^◌, ◌≤◌, suc, zero, ℕ, Bool, Err, Ok, Result, ◌&&◌, ◌||◌, cond, false, not, true, List, [], ◌++◌, ◌∷◌, map, ◌↔◌, ◌⊎◌, ◌≡◌, refl, eqb, leb, ltb, get_or, length, replicate, set}
pub use Rattle.std.proofs.Math.Bool.{or-true}
pub use Rattle.std.proofs.Common.{true≢false, inl, inr, ⊎_elim, ◌∙◌, ap, subst, sym, le_antisymm, arith, rules, eqb-true, le-leb, le-ltb, leb-false, leb-true, lt-ltb, ltb-false, ltb-true}
pub use Rattle.std.proofs.lemmas.Bool.{eqb-false, not-false}
pub use Rattle.std.proofs.lemmas.List.{length-map}
pub use Rattle.laws.specs.BoolLaws.{and_left, and_right, implied}
pub use Rattle.laws.specs.Bools.{implies}
pub use Rattle.laws.specs.CaseLaws.{acceptance_tells, clear, leaves_is, leaves_same, outcome_is, outcome_past, refusal_tells}
pub use Rattle.laws.specs.Cases.{Case, Outcome, fine, follows, leaves, outcome, refused}
unfoldable pub use Rattle.laws.specs.Cases.{ascends, case}
pub use Rattle.laws.specs.Chains.{◌and◌, none, past, this}
pub use Rattle.laws.specs.Counts.{all_each, count_and_true, count_every, count_mono}
pub use Rattle.laws.specs.Determined.{determined, told_apart}
unfoldable pub use Rattle.laws.specs.Front.{over}
pub use Rattle.laws.specs.HoldLaws.{hold, nth}
unfoldable pub use Rattle.laws.specs.Lists.{all, any}
pub use Rattle.laws.specs.Lists.{holds}
pub use Rattle.laws.specs.Members.{Above, Apart, Beyond, None, Shared, Some, Under, Within}
pub use Rattle.laws.specs.Reads.{Reads}
pub use Rattle.laws.specs.ReadsLaws.{reading, reads_not}
pub use Rattle.laws.specs.SetLaws.{below_reads, empty, inside_reads, meets_reads, some_member}
pub use Rattle.laws.specs.Sets.{below, inside, meets, member}
pub use Rattle.event.specs.Answers.{answer_by}
pub use Rattle.event.specs.EventLaws.{every_kind}
pub use Rattle.event.specs.Events.{about, actor, described, job_of, kind_of, of_role, refusals_of, set_of, tick_of}
pub use Rattle.event.specs.Limits.{highest, jobs}
pub use Rattle.event.proofs.RefusalLaws.{clear_named, refusal_of_number_of}
pub use Rattle.event.specs.Refusals.{among, cases_by, documented, number_of, outcome_of}
pub use Rattle.event.specs.declared.clock.Tick.{Tick}
pub use Rattle.event.specs.declared.events.Event.{Event}
pub use Rattle.event.specs.declared.events.Event.TheVariants.{Ask, Beat, Complete, GiveUp, Open, Release}
pub use Rattle.event.specs.declared.refusal.Refusal.{Refusal}
pub use Rattle.event.specs.declared.refusal.Refusal.TheVariants.{NoToken, NotLive, StillWaiting}
pub use Rattle.rows.specs.InLine.{count_line}
pub use Rattle.rows.specs.InWay.{in_way_at, in_way_some}
pub use Rattle.rows.specs.Line.{line, row_of}
pub use Rattle.line.specs.LineInCode.{Lines}
pub use Rattle.rows.specs.Order.{blocked, distinct, earlier, idle, in_way, live, token}
unfoldable pub use Rattle.rows.specs.Order.{ahead}
pub use Rattle.rows.specs.Propositions.{InTheWay}
pub use Rattle.rows.specs.declared.row.Row.{Row}
pub use Rattle.request.specs.declared.seen.Seen.{Seen}
pub use Rattle.decision.specs.declared.answer.Answer.{Answer}
pub use Rattle.arbiter.specs.declared.table.Next.{Next}
pub use Rattle.arbiter.specs.declared.table.Report.{Report}
pub use Rattle.arbiter.specs.declared.table.Table.{Table}
pub use Rattle.decision.specs.declared.deciding.Change.{Change}
unfoldable pub use Rattle.soundness.specs.Beside.{sound_by}
pub use Rattle.soundness.specs.declared.Bounds.{Bounds}
pub use Rattle.grounds.specs.Refusals.{calling}
pub use Rattle.rows.specs.Sweep.{woken}
pub use Rattle.rows.specs.Turns.{turn_earlier}
pub use Rattle.pass.specs.Pass.{Known, Surveyed, seen_by}
pub use Rattle.pass.specs.declared.known.Survey.{Survey}
pub use Rattle.sweep.specs.SteadyLaws.{sound_steady}
pub use Rattle.sweep.specs.Sweeping.{Acts, Onward, Settles, Swept, ended, settled_rows, stayed}
pub use Rattle.std.proofs.Math.Arith.{le-zero}
