-- Who is in the way of what a job asked for.
use Rattle.std.specs.Prelude.{ℕ, List, ◌++◌, length}
use Rattle.arbiter.specs.Refusals.{list_cases, report_cases}
use Rattle.arbiter.specs.Sound.{row_in}
use Rattle.arbiter.specs.declared.table.Table.{Table}
use Rattle.laws.specs.Cases.{Case, Outcome, leaves, outcome}
use Rattle.laws.specs.Front.{over}
use Rattle.questions.specs.InCode.{claims_ahead}
use Rattle.rows.specs.Line.{keep, line}
use Rattle.rows.specs.declared.row.Row.{Row}

-- the jobs of lower turn than n that declare some member of s, in order of turn
unfoldable pub claimants_before : List Row → ℕ → ℕ → List ℕ
claimants_before rows n s = keep (claims_ahead rows n s) (line rows)

-- the jobs in the way of what job j asked for
abbrev pub in_way_of : Table → ℕ → List ℕ
in_way_of t j = claimants_before t.rows (row_in t j).turn.0 (row_in t j).asked

-- when the question is refused, with a lent list of n entries: as 2, then as a report
abbrev pub hinder_cases : ℕ → Table → ℕ → List Case
hinder_cases n t j = list_cases n ++ report_cases t j

-- the answer: how many are listed
unfoldable pub hinder_answer : ℕ → Table → ℕ → Outcome ℕ
hinder_answer n t j = outcome (hinder_cases n t j) (length (in_way_of t j))

-- the lent list after the question
unfoldable pub hinder_list : Table → ℕ → List ℕ → List ℕ
hinder_list t j out = leaves (hinder_cases (length out) t j) out (over (in_way_of t j) out)
