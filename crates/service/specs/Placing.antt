-- Rows of a file put into a table one by one, as code does it: each is tested against the rows that are there by then.
use Rattle.std.specs.Prelude.{ℕ, ◌<◌, ◌≤◌, Bool, true, not, ◌&&◌, List, [], ◌∷◌, ◌≡◌, ltb, length, set}
use Rattle.event.specs.Limits.{jobs}
use Rattle.fields.specs.Fields.{Fit}
use Rattle.rows.specs.Line.{line, row_of}
use Rattle.rows.specs.Order.{ahead, idle, live}
use Rattle.rows.specs.Propositions.{Distinct}
use Rattle.rows.specs.declared.row.Row.{Row}
use Rattle.service.specs.File.{row_order, row_said, row_widths}
use Rattle.service.specs.declared.format.FileRow.{FileRow}

-- P holds of every row
abbrev pub Every : (FileRow → Type 0) → List FileRow → Type 0
Every P [] = Unit {0}
Every P (f ∷ fs) = P f × Every P fs

-- each value of a row fits its field
abbrev pub RowFits : FileRow → Type 0
RowFits f = Fit (row_order row_widths) (row_order f)

-- every row is of a job that there is
abbrev pub JobsBelow : List FileRow → Type 0
JobsBelow = Every (λ f. f.job < jobs)

-- its job has no live row among these
abbrev pub free : List Row → FileRow → Bool
free rows f = not (live (row_of rows f.job))

-- each turn is above the one before, the first above n, and each row comes to a job whose row is not live
unfoldable pub fits : ℕ → List Row → List FileRow → Bool
fits n rows [] = true
fits n rows (f ∷ fs) = ltb n f.turn && free rows f && fits f.turn (set rows f.job (row_said f)) fs

-- The rows of a table that has given no turn above n: idle rows are zero, no two turns are alike, and before any higher
-- turn stand all who are in line.
pub record UpTo (n : ℕ) (rows : List Row) : Type 0 where
  pub long : length rows ≡ jobs
  pub given : (j : ℕ) → (row_of rows j).turn.0 ≤ n
  pub idles : (j : ℕ) → (row_of rows j).turn.0 ≡ 0 → row_of rows j ≡ idle
  pub apart : Distinct rows
  pub behind : (m : ℕ) → n < m → ahead rows m ≡ length (line rows)
