-- Laws of going along a line: at its beginning, at each job, of those to come, at its end.
use Rattle.std.specs.Prelude.{◌+◌, ◌<◌, ◌∷◌, ◌≡◌, ◌≢◌, ◌≤◌}
use Rattle.sweep.specs.Prelude.{Bool, Distinct, Each, InTurn, List, Row, Standing, Stands, [], ahead, ahead_mono, ahead_set, along_end, along_stands, along_start, along_step, ap, arith, behind, bit, cond, each_head, each_tail, false, front, get_or, idle, le_antisymm, le_of_suc-le-suc, length, line, lined, lined_below, lined_in_turn, live, live_within, ltb, ltb-false, ltb-true, not_earlier, not-suc-le-zero, place, refl, row_of, set, suc, sym, true, turn_earlier, under, zero, ℕ}
use Rattle.sweep.specs.Walking.{Rising, Walk}

-- ---- Of two live rows the one of higher turn has more ahead of it

module _ (rows : List Row) where
  pub ahead_rises :
      (j n : ℕ) → 0 < (row_of rows j).turn.0 → (row_of rows j).turn.0 < n → ahead rows (row_of rows j).turn.0 < ahead rows n
  ahead_rises j n alive higher =
      let within = live_within rows j alive in
      omega (
        arith,
        ahead_set rows j idle within (row_of rows j).turn.0,
        ahead_set rows j idle within n,
        ahead_mono (set rows j idle) (row_of rows j).turn.0 n (omega arith),
        ap bit (not_earlier (row_of rows j).turn.0 (row_of rows j) (omega arith)),
        ap bit (turn_earlier n (row_of rows j) alive higher),
      )

  -- so as many ahead means the same job, where turns are distinct
  pub one_place :
      Distinct rows → (i j : ℕ) → 0 < (row_of rows i).turn.0 → 0 < (row_of rows j).turn.0 →
      ahead rows (row_of rows i).turn.0 ≡ ahead rows (row_of rows j).turn.0 → i ≡ j
  one_place apart i j alive-i alive-j same =
      apart i j alive-i
      (le_antisymm
      (not_above (row_of rows i).turn.0 (row_of rows j).turn.0 (λ h. omega (arith, ahead_rises j (row_of rows i).turn.0 alive-j h)))
      (not_above (row_of rows j).turn.0 (row_of rows i).turn.0 (λ h. omega (arith, ahead_rises i (row_of rows j).turn.0 alive-i h))))
    where
      not_above : (a b : ℕ) → ¬ (b < a) → a ≤ b
      not_above a b h = omega arith

-- ---- The turns of a line rise, where they are distinct

module _ (rows : List Row) where
  place_rising :
      (m j : ℕ) (l : List ℕ) → m < (row_of rows j).turn.0 → Rising rows m l →
      Each (λ i. (row_of rows i).turn.0 ≢ (row_of rows j).turn.0) l → Rising rows m (place rows j l)
  unfolding place Rising
  place_rising m j [] above rises other = (above, tt)
  place_rising m j (x ∷ l) above rises other =
      go (ltb (row_of rows j).turn.0 (row_of rows x).turn.0) refl
      (λ h. place_rising (row_of rows x).turn.0 j l h rises.1 (each_tail (λ i. (row_of rows i).turn.0 ≢ (row_of rows j).turn.0) x l other))
    where
      go :
          (b : Bool) → ltb (row_of rows j).turn.0 (row_of rows x).turn.0 ≡ b →
          ((row_of rows x).turn.0 < (row_of rows j).turn.0 → Rising rows (row_of rows x).turn.0 (place rows j l)) →
          Rising rows m (cond b (j ∷ x ∷ l) (x ∷ place rows j l))
      go true e ih = (above, (ltb-true (row_of rows j).turn.0 (row_of rows x).turn.0 e, rises.1))
      go false e ih =
          let apart = each_head (λ i. (row_of rows i).turn.0 ≢ (row_of rows j).turn.0) x l other in
          (rises.0, ih (omega (arith, ltb-false (row_of rows j).turn.0 (row_of rows x).turn.0 e, apart)))

  lined_rising : Distinct rows → (n : ℕ) → Rising rows 0 (lined rows (under n))
  unfolding lined under Rising
  lined_rising apart zero = tt
  lined_rising apart (suc n) = go (live (row_of rows n)) refl (lined_rising apart n)
    where
      go :
          (b : Bool) → live (row_of rows n) ≡ b → Rising rows 0 (lined rows (under n)) →
          Rising rows 0 (cond b (place rows n (lined rows (under n))) (lined rows (under n)))
      go true e ih =
          let alive = ltb-true 0 (row_of rows n).turn.0 e in
          place_rising 0 n (lined rows (under n)) alive ih
          (λ i within same. omega (arith, lined_below rows n i within, apart n (get_or (lined rows (under n)) i 0) alive (sym same)))
      go false e ih = ih

-- ---- At the beginning

pub walk_start : (rows : List Row) → Distinct rows → Walk rows front (line rows)
walk_start rows apart =
    record {
      last = 0;
      rises = lined_rising rows apart (length rows);
      sorted = lined_in_turn rows (under (length rows));
      along = along_start rows;
    }

-- ---- At each job

module _ {rows : List Row} {s : Standing} {j : ℕ} {left : List ℕ} (w : Walk rows s (j ∷ left)) where
  above : w.last < (row_of rows j).turn.0
  unfolding Rising
  above = w.rises.0

  -- it is live
  pub walk_alive : 0 < (row_of rows j).turn.0
  walk_alive = omega (arith, above)

  -- what stands before it is its standing
  pub walk_stands : Stands rows (row_of rows j).turn.0 s
  walk_stands = along_stands rows s w.last j left above w.sorted w.along

  -- and with it before the rest
  pub walk_step : Walk rows (behind s (row_of rows j)) left
  unfolding Rising InTurn
  walk_step =
      record {
        last = (row_of rows j).turn.0;
        rises = w.rises.1;
        sorted = w.sorted.1;
        along = along_step rows s w.last j left above w.sorted w.along;
      }

-- ---- Those to come

-- each job still to come is live, and no fewer stand before it
pub walk_later :
    {rows : List Row} {s : Standing} (left : List ℕ) → Walk rows s left →
    Each (λ j. (0 < (row_of rows j).turn.0) × (s.ahead ≤ ahead rows (row_of rows j).turn.0)) left
walk_later [] w i within = absurd (not-suc-le-zero within)
walk_later (j ∷ left) w zero within = (walk_alive w, omega (arith, (walk_stands w).before))
walk_later {rows = rows} {s = s} (j ∷ left) w (suc i) within =
    let later = walk_later {s = behind s (row_of rows j)} left (walk_step w) i (le_of_suc-le-suc within) in
    (later.0, omega (arith, later.1))

-- a job's place after here is how many more stand before it
walk_places :
    {rows : List Row} {s : Standing} (left : List ℕ) → Walk rows s left → (i : ℕ) → i < length left →
    (0 < (row_of rows (get_or left i 0)).turn.0) × (ahead rows (row_of rows (get_or left i 0)).turn.0 ≡ s.ahead + i)
walk_places [] w i within = absurd (not-suc-le-zero within)
walk_places (j ∷ left) w zero within = (walk_alive w, omega (arith, (walk_stands w).before))
walk_places {rows = rows} {s = s} (j ∷ left) w (suc i) within =
    let later = walk_places {s = behind s (row_of rows j)} left (walk_step w) i (le_of_suc-le-suc within) in
    (later.0, omega (arith, later.1))

-- a job's place in line is how many stand before it
pub line_places :
    (rows : List Row) → Distinct rows → (i : ℕ) → i < length (line rows) →
    (0 < (row_of rows (get_or (line rows) i 0)).turn.0) × (ahead rows (row_of rows (get_or (line rows) i 0)).turn.0 ≡ i)
line_places rows apart i within =
    let place = walk_places (line rows) (walk_start rows apart) i within in
    (place.0, omega (arith, place.1))

-- ---- At the end

-- everybody stood before here
pub walk_end :
    {rows : List Row} {s : Standing} → Walk rows s [] → (j : ℕ) → 0 < (row_of rows j).turn.0 → ahead rows (row_of rows j).turn.0 < s.ahead
walk_end {rows} {s} w j alive =
    let n = w.last + (row_of rows j).turn.0 + 1 in
    omega
    (arith, (along_end rows s w.last n (omega arith) w.along).before, ahead_rises rows j n alive (omega arith))
