-- The verdict on each kind of event is that of its own function.
use Rattle.std.specs.Prelude.{◌≡◌}
use Rattle.std.proofs.Common.{subst}
use Rattle.decision.specs.Prelude.{Event, Refusal, Result, Seen, outcome, outcome_of, sym, tick_of, time_from, ℕ}
use Rattle.decision.specs.Changes.{refusal_cases}
use Rattle.decision.proofs.deciding.verdict.Goals as goal

-- a verdict on an event
abbrev Judges : Result ℕ Refusal → Seen → Event → Type 0
Judges r s e = outcome_of r ≡ outcome (refusal_cases s e) (time_from s.time (tick_of e))

pub returns-in-Ask : goal.returns-in-Ask
returns-in-Ask c = subst (Judges c.ask_verdict.result c.args.s) (sym c.in-Ask.is) c.ask_verdict.ensures

pub returns-in-Release : goal.returns-in-Release
returns-in-Release c = subst (Judges c.release_verdict.result c.args.s) (sym c.in-Release.is) c.release_verdict.ensures

pub returns-in-GiveUp : goal.returns-in-GiveUp
returns-in-GiveUp c = subst (Judges c.give_up_verdict.result c.args.s) (sym c.in-GiveUp.is) c.give_up_verdict.ensures
