-- What the sweep needs to know of the rows before and after one of them was written.
use Rattle.std.specs.Prelude.{ℕ, ◌+◌, ◌<◌, Bool, false, true, List, ◌≡◌, length}
use Rattle.rows.specs.Line.{row_of}
use Rattle.rows.specs.Order.{ahead, waiting}
use Rattle.rows.specs.Propositions.{Distinct}
use Rattle.rows.specs.declared.row.Row.{Row}
use Rattle.sweep.specs.Steady.{SteadyRow}

-- how many stood before a request, and how many stand there now: where the line moved up, one of them has gone, or one behind
-- it that had a token; otherwise as many stand there
pub data MovedUp (T before after : ℕ) : Bool → Type 0 where
  one_fewer : before ≡ after + 1 → MovedUp T before after true
  gone_behind : before ≡ after → after + 1 < T → MovedUp T before after true
  as_many : before ≡ after → MovedUp T before after false

-- r has taken the place of r₀, one of these rows
pub record Becomes (T : ℕ) (rows : List Row) (r₀ r : Row) : Type 0 where
  -- by its turn and what it asks for it waits exactly if r₀ did
  pub waits : waiting T rows r₀ ≡ waiting T rows r
  -- a request has kept its turn
  pub turn : 0 < r.turn.0 → r.turn.0 ≡ r₀.turn.0
  -- and is steady by the token that it had or had not
  pub steady : SteadyRow T rows r

-- a row of `rows` was written, which made them w, and the line moved up or not
pub record Written (up : Bool) (T : ℕ) (rows w : List Row) : Type 0 where
  pub apart : Distinct w
  pub long : length w ≡ length rows
  pub each : (j : ℕ) → Becomes T rows (row_of rows j) (row_of w j)
  pub moved :
      (j : ℕ) → 0 < (row_of w j).turn.0 →
      MovedUp T (ahead rows (row_of w j).turn.0) (ahead w (row_of w j).turn.0) up
