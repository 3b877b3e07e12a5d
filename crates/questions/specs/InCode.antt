-- Who is in the way and who is overdue, as code finds it out along the line.
use Rattle.std.specs.Prelude.{ℕ, ◌<◌, Bool, ◌&&◌, List, ◌≡◌, ltb, get_or, length}
use Rattle.laws.specs.Sets.{meets}
use Rattle.rows.specs.Line.{keep, line, row_of}
use Rattle.rows.specs.Order.{waiting}
use Rattle.rows.specs.declared.row.Row.{Row}

-- job j is of lower turn than n, and declares some member of s
abbrev pub claims_ahead : List Row → ℕ → ℕ → ℕ → Bool
claims_ahead rows n s j = ltb (row_of rows j).turn.0 n && meets (row_of rows j).declared s

-- job j waits, and since before this time
abbrev pub waits_before : ℕ → ℕ → List Row → ℕ → Bool
waits_before T from rows j = ltb (row_of rows j).since from && waiting T rows (row_of rows j)

-- what is said of the place and the row of each job in line, f says of the job
abbrev pub Decides : (ℕ → Row → Bool → Type 0) → List Row → (ℕ → Bool) → Type 0
Decides said rows f =
    (p : ℕ) → p < length (line rows) → (b : Bool) → said p (row_of rows (get_or (line rows) p 0)) b →
    f (get_or (line rows) p 0) ≡ b

-- the jobs in line that pass a test, in order of turn
abbrev pub passing : (ℕ → Bool) → List Row → List ℕ
passing f rows = keep f (line rows)
