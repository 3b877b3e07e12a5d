-- The calls by their numbers, and what is handed to them.
use Rattle.std.specs.Prelude.{ℕ, zero, suc, ◌+◌, ◌-◌, ◌*◌, ◌%◌, cond, List, [], ◌∷◌, ◌++◌, eqb, ltb, Option, Some}
use Rattle.std.specs.Option.{option_map}
use Rattle.arbiter.specs.declared.table.Table.{Table}
use Rattle.event.specs.Events.{event_of, kind_numbered, parts}
use Rattle.event.specs.declared.events.Event.{Event}
use Rattle.event.specs.declared.events.Kind.{Kind}
use Rattle.event.specs.declared.events.Kind.TheVariants.{GiveUp}
use Rattle.event.specs.declared.events.Start.{Start}
use Rattle.cases.specs.declared.calls.Call.{Call}
use Rattle.cases.specs.declared.calls.Call.TheVariants as call
use Rattle.cases.specs.declared.layout.Case.{Case}

-- from here on an event is written, not made
abbrev pub writing : ℕ
writing = 8

-- the calls of events: the kind's number if the event is made, that number plus `writing` if it is written
abbrev pub event_call_numbered : ℕ → Option Call
event_call_numbered n =
    cond (ltb n writing) (option_map call.Event (kind_numbered n)) (option_map call.Write (kind_numbered (n - writing)))

-- the call of a number, if one has it; a give up's number is taken by a question, so it has numbers of its own
abbrev pub call_numbered : ℕ → Option Call
call_numbered n =
    cond (eqb n 5) (Some call.Report)
    (cond (eqb n 6) (Some call.Overdue)
    (cond (eqb n 7) (Some call.Start)
    (cond (eqb n 13) (Some call.WriteStart)
    (cond (eqb n 14) (Some (call.Event GiveUp))
    (cond (eqb n 15) (Some (call.Write GiveUp)) (event_call_numbered n))))))

-- the event of that kind that a case hands over
abbrev pub case_event : Case → Kind → Event
case_event c k = event_of (parts k c.job c.tick c.set)

-- the start that a case hands over, with the numbers of its table
abbrev pub case_start : Case → Table → Start
case_start c t = record { tokens = t.tokens; resources = t.resources; tick = c.tick; limit = t.limit }

-- a list of n entries as it is lent: entry i is (7i + 3) modulo 256
unfoldable pub lent : ℕ → List ℕ
lent zero = []
lent (suc n) = lent n ++ ((7 * n + 3) % 256 ∷ [])
