-- What the sweep needs to know of the rows of a sound table.
use Rattle.std.specs.Prelude.{ℕ, ◌<◌, ◌≤◌, List, ◌≡◌}
use Rattle.rows.specs.Line.{row_of}
use Rattle.rows.specs.Order.{ahead, idle}
use Rattle.rows.specs.Propositions.{Distinct}
use Rattle.rows.specs.declared.row.Row.{Row}

-- a row, by the tokens among these rows
pub record SteadyRow (T : ℕ) (rows : List Row) (r : Row) : Type 0 where
  -- a row that is no request is zero
  pub zero : r.turn.0 ≡ 0 → r ≡ idle
  -- a request without a token asks for nothing
  pub quiet : 0 < r.turn.0 → T ≤ ahead rows r.turn.0 → r.asked ≡ 0
  -- one with a token that asks for nothing has no waiting time
  pub rests : 0 < r.turn.0 → ahead rows r.turn.0 < T → r.asked ≡ 0 → r.since ≡ 0

pub record Steady (T : ℕ) (rows : List Row) : Type 0 where
  pub apart : Distinct rows
  pub each : (j : ℕ) → SteadyRow T rows (row_of rows j)
