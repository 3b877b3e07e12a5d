-- What the calls promise, by name.
use Rattle.std.specs.Prelude.{ℕ, List, ◌≡◌, Result, length}
use Rattle.event.specs.Refusals.{outcome_of}
use Rattle.event.specs.declared.events.Event.{Event}
use Rattle.event.specs.declared.refusal.Refusal.{Refusal}
use Rattle.arbiter.specs.Answers.{said_of}
use Rattle.arbiter.specs.Meaning.{answer, listed, next, overdue, overdue_list, report, start_answer, start_table}
use Rattle.arbiter.specs.declared.table.Next.{Next}
use Rattle.arbiter.specs.declared.table.Report.{Report}
use Rattle.arbiter.specs.declared.table.Table.{Table}

-- r is the answer to event e on table t, and the next table; n is the length of the lent list
pub record Answered (n : ℕ) (t : Table) (e : Event) (r : Next) : Type 0 where
  pub says : said_of r.answer ≡ answer n t e
  pub hands : r.table ≡ next n t e

-- the same, with the lent list before and after
pub record AnsweredInto (t : Table) (e : Event) (before : List ℕ) (r : Next) (after : List ℕ) : Type 0 where
  pub answered : Answered (length before) t e r
  pub lists : after ≡ listed t e before

-- r is the answer to a start, and the first table
pub record Started (T R tick limit : ℕ) (r : Next) : Type 0 where
  pub says : said_of r.answer ≡ start_answer T R limit
  pub hands : r.table ≡ start_table T R tick limit

-- r is the report of the request of job j
abbrev pub ReportAnswered : Table → ℕ → Result Report Refusal → Type 0
ReportAnswered t j r = outcome_of r ≡ report t j

-- r is how many jobs are overdue at a tick, with the lent list before and after
pub record OverdueAnswered (t : Table) (tick : ℕ) (before : List ℕ) (r : Result ℕ Refusal) (after : List ℕ) : Type 0 where
  pub says : outcome_of r ≡ overdue (length before) t tick
  pub lists : after ≡ overdue_list t tick before
