-- When a call on a table is refused: the cases of each call, in order.
use Rattle.std.specs.Prelude.{ℕ, Bool, cond, not, List, [], ◌∷◌, ◌++◌, ltb}
use Rattle.event.specs.Clock.{clock_refusals}
use Rattle.event.specs.Events.{about, refusals_of, job_of, set_of, tick_of}
use Rattle.event.specs.Limits.{jobs}
use Rattle.event.specs.Refusals.{cases_by, refusing}
use Rattle.event.specs.declared.events.Event.{Event}
use Rattle.event.specs.declared.refusal.Refusal.{Refusal}
use Rattle.event.specs.declared.refusal.Refusal.TheVariants.{BadStart, ShortList, UnsoundTable, NoSuchJob, NotLive}
use Rattle.laws.specs.Cases.{Case}
use Rattle.laws.specs.Lists.{holds}
use Rattle.arbiter.specs.Sound.{ranges, row_in, sound, token_of}
pub use Rattle.grounds.specs.Refusals.{Call, calling}
use Rattle.grounds.specs.Refusals.{applies_to}
use Rattle.request.specs.declared.seen.Seen.{Seen}
use Rattle.arbiter.specs.declared.table.Table.{Table}

-- what a call about job j sees of a table
abbrev pub seen_in : Table → ℕ → Seen
seen_in t j =
    record {
      sound = sound t;
      resources = t.resources;
      time = t.time;
      last = t.last;
      row = row_in t j;
      token = token_of t (row_in t j);
    }

-- when each refusal applies to a call on a table
abbrev pub applies : Table → Call → Refusal → Bool
applies t c = applies_to (seen_in t c.job) c

-- a lent list of n entries is shorter than one for each job
abbrev pub list_cases : ℕ → List Case
list_cases n = refusing ShortList (ltb n jobs) ∷ []

-- the cases of an event, with a lent list of n entries: those of the list, if it may wake others, and then those of the table
abbrev pub cases : ℕ → Table → Event → List Case
cases n t e =
    cond (about e).wakes (list_cases n) []
    ++ cases_by (applies t (calling (job_of e) (tick_of e) (set_of e))) (refusals_of (about e))

-- the case of a start
abbrev pub start_cases : ℕ → ℕ → ℕ → List Case
start_cases T R limit = refusing BadStart (not (holds (ranges T R limit))) ∷ []

-- the cases of a report
abbrev pub report_cases : Table → ℕ → List Case
report_cases t j = cases_by (applies t (calling j 0 0)) (UnsoundTable ∷ NoSuchJob ∷ NotLive ∷ [])

-- the cases of the question who is overdue, with a lent list of n entries
abbrev pub overdue_cases : ℕ → Table → ℕ → List Case
overdue_cases n t tick = list_cases n ++ cases_by (applies t (calling 0 tick 0)) (UnsoundTable ∷ clock_refusals)
