-- What an event comes to, from what it sees of the table, as code finds it out.
use Rattle.std.specs.Prelude.{ℕ, ◌+◌, Bool, cond, List}
use Rattle.event.specs.Events.{job_of, kind_of, set_of, tick_of}
use Rattle.event.specs.declared.events.Event.{Event}
use Rattle.event.specs.declared.events.Event.TheVariants.{Beat, Open, Ask, Release, Complete, GiveUp}
use Rattle.laws.specs.Cases.{Case}
use Rattle.request.specs.Change.{asking, giving_up, opening, releasing}
use Rattle.grounds.specs.Refusals.{calling, event_cases, time_from}
use Rattle.request.specs.declared.seen.Seen.{Seen}
use Rattle.rows.specs.Order.{idle}
use Rattle.rows.specs.declared.row.Row.{Row}
use Rattle.decision.specs.declared.deciding.Change.{Change}
use Rattle.decision.specs.declared.answer.Answer.{Answer}
use Rattle.decision.specs.declared.answer.Answer.TheVariants as Answers

-- the cases of an event that sees s, apart from those of a lent list
abbrev pub refusal_cases : Seen → Event → List Case
refusal_cases s e = event_cases s (calling (job_of e) (tick_of e) (set_of e)) (kind_of e)

-- the answer to an opening, by whether it has a token
abbrev pub open_answer : Bool → Answer
open_answer token = cond token Answers.Token Answers.Wait

-- the answer to an ask, by whether its set is forbidden
abbrev pub ask_answer : Bool → Answer
ask_answer forbidden = cond forbidden Answers.Wait Answers.Granted

-- an opening changes this
abbrev pub opens : Seen → ℕ → Bool → ℕ → Change
opens s time token declared =
    record {
      answer = open_answer token;
      time = time;
      last = record { 0 = s.last.0 + 1 };
      row = opening s.last.0 token time declared;
    }

-- an event that gives no turn changes this
abbrev pub keeps : Seen → ℕ → Answer → Row → Change
keeps s time answer row = record { answer = answer; time = time; last = s.last; row = row }

-- what an accepted event changes at this time; how many jobs it wakes is found out along the line
abbrev pub change_at : Seen → ℕ → Bool → Bool → Event → Change
change_at s time forbidden token (Beat tick) = keeps s time Answers.Done s.row
change_at s time forbidden token (Open j tick set) = opens s time token set
change_at s time forbidden token (Ask j tick set) = keeps s time (ask_answer forbidden) (asking s.row forbidden time set)
change_at s time forbidden token (Release j tick set) = keeps s time Answers.Done (releasing s.row set)
change_at s time forbidden token (Complete j tick) = keeps s time Answers.Done idle
change_at s time forbidden token (GiveUp j tick set) = keeps s time Answers.Done (giving_up s.row set)

-- what it changes at the time that its tick gives
abbrev pub change_for : Seen → Bool → Bool → Event → Change
change_for s forbidden token e = change_at s (time_from s.time (tick_of e)) forbidden token e
