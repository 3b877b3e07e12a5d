-- What is kept from record to record of a dump.
use Rattle.std.specs.Prelude.{◌+◌, ◌-◌, ◌==◌, ◌^◌, if◌then◌else◌}
use Rattle.wave.specs.Prelude.{Err, Ok, Result, min, ℕ}
use Rattle.decision.specs.declared.answer.Answer.{Answer}
use Rattle.event.specs.declared.refusal.Refusal.{Refusal}
use Rattle.follow.specs.declared.visit.Visit.{Visit}
use Rattle.wave.specs.declared.changes.Trace.{Trace}

-- one more, as long as there are numbers
abbrev pub more : ℕ → ℕ
more n = min (n + 1) (2 ^ 64 - 1)

-- how many records were refused, with one that was answered so
abbrev pub refused_after : Result Answer Refusal → ℕ → ℕ
refused_after (Err r) n = more n
refused_after (Ok a) n = n

-- after the first record
abbrev pub first_trace : Result Answer Refusal → Trace
first_trace answer = record { here = 1; refusals = refused_after answer 0 }

-- after a later one: it has the true time of the one before, or a new one
abbrev pub trace_after : Trace → Visit → Trace
trace_after t v =
    record {
      here = if v.before.now.time == v.after.now.time then more t.here else 1;
      refusals = refused_after v.answer t.refusals;
    }
