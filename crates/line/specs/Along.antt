-- Along the line: what stands before the rest of it. Only turns above the last one passed are spoken of, so the turns need
-- not be known to be distinct.
use Rattle.std.specs.Prelude.{ℕ, ◌+◌, ◌<◌, ◌||◌, List, ◌≡◌}
use Rattle.laws.specs.Lists.{any, count}
use Rattle.laws.specs.Sets.{meets}
use Rattle.rows.specs.Line.{row_of}
use Rattle.rows.specs.Order.{ahead, blocked, claims, earlier}
use Rattle.rows.specs.declared.row.Row.{Row}
use Rattle.rows.specs.declared.stand.Standing.{Standing}

-- s is what stands before `left`, the rest of the line after the turn m
pub record Along (rows : List Row) (s : Standing) (m : ℕ) (left : List ℕ) : Type 0 where
  pub counted : (n : ℕ) → m < n → s.ahead + count (λ j. earlier n (row_of rows j)) left ≡ ahead rows n
  pub claimed :
      (n x : ℕ) → m < n → (meets s.claims x || any (λ j. claims n x (row_of rows j)) left) ≡ blocked rows n x
