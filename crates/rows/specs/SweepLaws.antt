-- Laws of the sweep: it changes no turn and no declared set.
use Rattle.std.specs.Prelude.{◌≡◌}
use Rattle.rows.specs.Prelude.{List, get_or-map, Row, ◌∙◌, ap, either, get_or, length, length-map, map, refl, sym, union, ℕ}
use Rattle.rows.specs.Line.{row_of}
use Rattle.rows.specs.Order.{ahead, blocked, distinct, idle, in_way, waiting}
use Rattle.rows.specs.Propositions.{opening_of}
use Rattle.rows.specs.OrderLaws.{ahead_map, distinct_map, in_way_map}
use Rattle.rows.specs.Sweep.{granted_row, rested_row, swept_row, settled}

-- the sweep changes no turn and no declared set
pub granted_keeps : (rows : List Row) (r : Row) → opening_of (granted_row rows r) ≡ opening_of r
granted_keeps rows r = either opening_of (blocked rows r.turn.0 r.asked) r _ refl

module _ (T : ℕ) (rows : List Row) where
  pub swept_keeps : (r : Row) → opening_of (swept_row T rows r) ≡ opening_of r
  swept_keeps r = either opening_of (waiting T rows (granted_row rows r)) (granted_row rows r) _ refl ∙ granted_keeps rows r

  pub swept_idle : swept_row T rows idle ≡ idle
  unfolding union
  swept_idle = ap (rested_row T rows) (either (λ r. r) (blocked rows 0 0) idle _ refl)

  pub row_settled : (j : ℕ) → row_of (settled T rows) j ≡ swept_row T rows (row_of rows j)
  unfolding settled
  row_settled j =
      ap (λ (d : Row). get_or (map (swept_row T rows) rows) j d) (sym swept_idle) ∙ get_or-map (swept_row T rows) rows j idle

  pub turn_settled : (j : ℕ) → (row_of (settled T rows) j).turn ≡ (row_of rows j).turn
  turn_settled j = ap (λ (r : Row). r.turn) (row_settled j) ∙ ap (λ (r : Row). r.turn) (swept_keeps (row_of rows j))

  pub length_settled : length (settled T rows) ≡ length rows
  unfolding settled
  length_settled = length-map rows (swept_row T rows)

  pub ahead_settled : (n : ℕ) → ahead (settled T rows) n ≡ ahead rows n
  unfolding settled
  ahead_settled = ahead_map (swept_row T rows) swept_keeps rows

  pub in_way_settled : (n s : ℕ) → in_way (settled T rows) n s ≡ in_way rows n s
  unfolding settled
  in_way_settled = in_way_map (swept_row T rows) swept_keeps rows

  pub distinct_settled : distinct (settled T rows) ≡ distinct rows
  unfolding settled
  distinct_settled = distinct_map (swept_row T rows) swept_keeps rows
