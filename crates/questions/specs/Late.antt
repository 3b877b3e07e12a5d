-- Who is overdue.
use Rattle.std.specs.Prelude.{ℕ, ◌-◌, Bool, ◌&&◌, List, leb}
use Rattle.rows.specs.Line.{keep, line, row_of}
use Rattle.rows.specs.Order.{waiting}
use Rattle.rows.specs.declared.row.Row.{Row}

-- the job waits, and its wait up to this time is the limit or more
abbrev pub late_job : ℕ → ℕ → ℕ → List Row → ℕ → Bool
late_job T limit time rows j = waiting T rows (row_of rows j) && leb limit (time - (row_of rows j).since)

-- the jobs that are overdue at this time, in order of turn
unfoldable pub late_in : ℕ → ℕ → ℕ → List Row → List ℕ
late_in T limit time rows = keep (late_job T limit time rows) (line rows)
