-- A line kept by code, and the declared sets beside it.
use Rattle.std.specs.Prelude.{ℕ, ◌+◌, ◌-◌, ◌<◌, Bool, cond, List, [], ◌∷◌, ◌++◌, ◌≡◌, eqb, get_or, length}
use Rattle.std.specs.List.{remove}
use Rattle.event.specs.Limits.{jobs}
use Rattle.laws.specs.Sets.{union}
use Rattle.line.specs.LineInCode.{jobs_of}
use Rattle.line.specs.declared.Line.{Line}
use Rattle.rows.specs.Line.{row_of}
use Rattle.rows.specs.Stand.{front}
use Rattle.rows.specs.declared.row.Row.{Row}
use Rattle.rows.specs.declared.stand.Standing.{Standing}

-- the column has the declared set of every live job
abbrev pub Declares : List Row → List ℕ → Type 0
Declares rows column = (j : ℕ) → 0 < (row_of rows j).turn.0 → get_or column j 0 ≡ (row_of rows j).declared

-- what stands before job k in the rest of a line that s stands before, by a column of declared sets; before a job that is
-- not there, nothing
unfoldable pub standing_in : List ℕ → ℕ → Standing → List ℕ → Standing
standing_in column k s [] = front
standing_in column k s (j ∷ l) =
    cond (eqb j k) s (standing_in column k (record { ahead = s.ahead + 1; claims = union s.claims (get_or column j 0) }) l)

-- a job that comes has been put at the end of a line
pub record Appended (comes : Bool) (job : ℕ) (before after : Line) : Type 0 where
  pub number : after.len ≡ cond comes (before.len + 1) before.len
  pub list : jobs_of after ≡ cond comes (jobs_of before ++ job ∷ []) (jobs_of before)
  pub long : length after.jobs ≡ jobs

-- the job at a place in line, if it goes, has been taken out
pub record Removed (goes : Bool) (place : ℕ) (before after : Line) : Type 0 where
  pub number : after.len ≡ cond goes (before.len - 1) before.len
  pub list : jobs_of after ≡ cond goes (remove (jobs_of before) place) (jobs_of before)
  pub long : length after.jobs ≡ jobs
