-- What an event that may wake others promises.
use Rattle.std.specs.Prelude.{ℕ, ◌<◌, List, ◌≡◌, set}
use Rattle.line.specs.LineInCode.{Listed}
use Rattle.rows.specs.Line.{row_of}
use Rattle.rows.specs.Order.{ahead, idle}
use Rattle.rows.specs.Sweep.{settled, woken}
use Rattle.rows.specs.declared.row.Row.{Row}

-- job k has a request that may act: it is live, has a token, and asks for nothing
pub record Acts (T : ℕ) (rows : List Row) (k : ℕ) : Type 0 where
  pub alive : 0 < (row_of rows k).turn.0
  pub has_token : ahead rows (row_of rows k).turn.0 < T
  pub asks_nothing : (row_of rows k).asked ≡ 0

-- what is written in place of r, the row of a request that acts: the request has ended, and the row is idle; or it goes on
-- with its turn, asks for nothing and waits for nothing
pub data Onward (r x : Row) : Type 0 where
  ended : x ≡ idle → Onward r x
  stayed : x.turn.0 ≡ r.turn.0 → x.asked ≡ 0 → x.since ≡ 0 → Onward r x

-- the rows after job k's row has become x: what the others wait for is settled again
abbrev pub settled_rows : ℕ → List Row → ℕ → Row → List Row
settled_rows T rows k x = settled T (set rows k x)

-- the rows after such an event, and how many jobs it woke
pub record Swept : Type 0 where
  pub rows : List Row
  pub count : ℕ

-- these are those rows, and who waited before and does not wait after was listed
pub record Settles (T : ℕ) (rows : List Row) (k : ℕ) (x : Row) (before : List ℕ) (r : Swept) (after : List ℕ) : Type 0 where
  pub leaves : r.rows ≡ settled_rows T rows k x
  pub lists : Listed (woken T rows (settled_rows T rows k x)) before r.count after
