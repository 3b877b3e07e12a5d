-- Going along a line whose turns are distinct.
use Rattle.std.specs.Prelude.{ℕ, ◌<◌, Bool, not, List, [], ◌∷◌, eqb}
use Rattle.line.specs.Along.{Along}
use Rattle.rows.specs.Line.{row_of}
use Rattle.rows.specs.Order.{live}
use Rattle.rows.specs.Propositions.{InTurn}
use Rattle.rows.specs.declared.row.Row.{Row}
use Rattle.rows.specs.declared.stand.Standing.{Standing}

-- each job has a higher turn than the one before it, and the first a higher one than m
unfoldable pub Rising : List Row → ℕ → List ℕ → Type 0
Rising rows m [] = Unit
Rising rows m (j ∷ l) = (m < (row_of rows j).turn.0) × Rising rows (row_of rows j).turn.0 l

-- s is what stands before `left`, the rest of the line
pub record Walk (rows : List Row) (s : Standing) (left : List ℕ) : Type 0 where
  pub last : ℕ
  pub rises : Rising rows last left
  pub sorted : InTurn rows left
  pub along : Along rows s last left

-- every job but k
abbrev pub besides : ℕ → ℕ → Bool
besides k j = not (eqb k j)

-- every job that has a request
abbrev pub live_in : List Row → ℕ → Bool
live_in rows j = live (row_of rows j)
