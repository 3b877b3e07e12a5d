-- The names from outside that this crate's definitions and proofs use, passed on by one module.
pub use Rattle.std.specs.Prelude.{◌+◌, ◌-◌, ◌<◌, ◌^◌, ◌≤◌, min, suc, zero, ℕ, Bool, ◌&&◌, ◌||◌, cond, false, not, true, ◌≢◌, ◌⊎◌, ◌≡◌, refl, eqb, leb, ltb, get_or, length, replicate, set}
pub use Rattle.std.proofs.Math.Bool.{and-eq-true_iff, and-false, and-not_self, or-false, or-true}
pub use Rattle.std.proofs.lemmas.Bool.{false≢true, eqb-false, lt-leb, not-false, not-true}
pub use Rattle.std.proofs.Common.{true≢false, inl, inr, ◌∙◌, ap, subst, sym, le_antisymm, le_of_eq, le_refl, lt_irrefl, not-suc-le-zero, arith, eq-eqb, eqb-true, le-leb, le-ltb, leb-false, leb-true, lt-ltb, ltb-false, ltb-true, length-set, get_or-set_other, get_or-set_same}
pub use mathlib.Core.List.Memᴰ.{cases_cons as List·Memᴰ·cases-cons}
pub use mathlib.Core.List.Memᴰ.{not-nil as List·Memᴰ·not-nil}
pub use mathlib.Core.List.{List, Memᴰ as List-as-Memᴰ, [], ◌++◌, ◌∷◌}
pub use Rattle.std.proofs.Math.Decide.{dec_le, dec_lt, ℕ_discrete}
pub use Rattle.std.proofs.Math.Arith.{le-zero}
pub use Rattle.std.proofs.Math.Seq.{set_out}
pub use Rattle.laws.specs.BoolLaws.{and_left, and_right, denied, denying, either, implied, implying}
pub use Rattle.laws.specs.Bools.{bit}
pub use Rattle.laws.specs.CaseLaws.{acceptance_tells, clear, refusal_tells, first_back, first_is}
pub use Rattle.laws.specs.Cases.{Case, fine, keep_unless, positive, refused}
unfoldable pub use Rattle.laws.specs.Cases.{case, first, leaves, outcome}
pub use Rattle.laws.specs.Chains.{◌and◌, none, past}
pub use Rattle.laws.specs.Counts.{all_each, count_at, count_mono, count_same, count_some, count_sum, each_all}
pub use Rattle.laws.specs.GoneLaws.{gone_balance, gone_none}
pub use Rattle.laws.specs.HoldLaws.{hold, nth}
unfoldable pub use Rattle.laws.specs.Lists.{all, count, gone}
pub use Rattle.laws.specs.Lists.{holds}
pub use Rattle.laws.specs.SetLaws.{inside_empty, inside_le, inside_reads, inside_refl, inside_trans, inside_union, inside_without, meets_comm, meets_empty, meets_inside, meets_reads, meets_without, member_empty, member_without, union_empty, union_self, without_inside}
unfoldable pub use Rattle.laws.specs.Sets.{below, inside, meets, union, without}
pub use Rattle.laws.specs.Sets.{member}
pub use Rattle.event.specs.Clock.{clock_cases, clock_refusals}
unfoldable pub use Rattle.event.specs.Clock.{forward}
pub use Rattle.event.specs.Events.{Role, about, actor, refusals_of, has_job, job_of, names, nobody, opener, set_of, tick_of}
pub use Rattle.event.specs.Limits.{jobs}
pub use Rattle.event.proofs.RefusalLaws.{cases_positive, first_named}
pub use Rattle.event.specs.Refusals.{cases_by, refusing}
pub use Rattle.event.specs.declared.clock.Tick.{Tick}
pub use Rattle.event.specs.declared.events.Event.TheVariants.{Ask, Beat, Complete, GiveUp, Open, Release}
pub use Rattle.event.specs.declared.refusal.Refusal.{Refusal}
pub use Rattle.event.specs.declared.refusal.Refusal.TheVariants.{NoSuchJob, NotLive, ShortList, UnsoundTable}
pub use Rattle.rows.specs.InWay.{ahead_mono, in_way_ahead, in_way_at, in_way_empty, in_way_inside, in_way_union}
unfoldable pub use Rattle.rows.specs.Line.{keep}
pub use Rattle.rows.specs.Line.{line, row_of}
pub use Rattle.rows.specs.LineLaws.{each_head, each_tail}
unfoldable pub use Rattle.rows.specs.Order.{ahead, distinct, in_way}
pub use Rattle.rows.specs.Order.{bears, blocked, claims, earlier, idle, live, token, waiting}
pub use Rattle.rows.specs.Propositions.{opening_of, Each, InTheWay}
pub use Rattle.rows.specs.OrderLaws.{ahead_set, in_way_set}
pub use Rattle.rows.specs.Sweep.{granted_row, rested_row, swept_row}
unfoldable pub use Rattle.rows.specs.Sweep.{settled, woken}
pub use Rattle.rows.specs.SweepLaws.{ahead_settled, distinct_settled, in_way_settled, length_settled, row_settled, swept_idle, swept_keeps}
pub use Rattle.rows.specs.Turns.{at_set, bears_own, bears_turn, distinct_at, distinct_rows, distinct_set, distinct_test, earlier_turn, live_within, not_earlier, turn_earlier, waiting_reads}
pub use Rattle.rows.specs.declared.row.Row.{Row}
pub use Rattle.arbiter.specs.Meaning.{accepted, asked_row, fresh_table, late, moved, no_table, opened_row, reported, row_after, rows_with, run, said, time_at, wakes}
unfoldable pub use Rattle.arbiter.specs.Meaning.{answer, course, next, overdue, report, start_answer, start_table}
pub use Rattle.arbiter.specs.Refusals.{Call, applies, calling, cases, list_cases, start_cases}
pub use Rattle.arbiter.specs.Sound.{counters, idle_conditions, own_conditions, place_conditions, ranges, row_in, sound_row, waiting_in, within}
unfoldable pub use Rattle.arbiter.specs.Sound.{sound}
pub use Rattle.arbiter.specs.declared.table.Table.{Table}
pub use Rattle.request.specs.Change.{giving_up, releasing}
