-- What is written of a sound table: each number fits its field, the rows are in order and no job has two, and put into an
-- empty table they make it whole.
use Rattle.std.specs.Prelude.{◌&&◌, ◌<◌, ◌^◌, ◌∷◌, ◌≡◌, ◌≢◌, ◌≤◌}
use Rattle.service.specs.Prelude.{Each, Fit, List, Rising, Row, Table, [], ◌∙◌, ahead, any, ap, arith, below, below_reads, dec_lt, each_cons, each_head, each_none, each_tail, eqb, ext_get_or, false, get_or-set_other, get_or-set_same, idle, idle_rows, inside, inside_reads, inside_refl, jobs, length, length_lined_le, length-replicate, length-set, line, line_below, line_place, lt-ltb, ltb-true, map, most, ne_eqb, pow_mono, refl, replicate, row_in, row_of, set, sound, subst, sym, table_sound, true, walk_start, ℕ, ℕ_discrete}
use Rattle.service.specs.File.{ascend, head_of, head_order, head_widths, once, placed, rows_of, say_row}
use Rattle.service.specs.PlacedLaws.{length_placed}
use Rattle.service.specs.Placing.{Every, RowFits}
use Rattle.service.specs.declared.format.FileRow.{FileRow}

-- ---- Each number fits

-- a set within one that lies within R has no more than 64 bits
part_fits : (R s t : ℕ) → R ≤ most → below t R ≡ true → inside s t ≡ true → s < 2 ^ 64
unfolding below
part_fits R s t small low part =
    let each = (below_reads s R).holds.1 (λ a has. (below_reads t R).holds.0 low a ((inside_reads s t).holds.0 part a has)) in
    omega (arith, ltb-true s (2 ^ R) each, pow_mono {i = R} {j = most} small)

module _ (t : Table) (ok : sound t ≡ true) where
  -- of the head
  pub head_fits_sound : length t.rows ≡ jobs → Fit (head_order head_widths) (head_order (head_of t))
  head_fits_sound long =
      let p = table_sound t ok in
      let count = length_lined_le t.rows (length t.rows) in
      omega (arith, p.ranges.tokens.1, p.ranges.resources.1, p.ranges.limit.1, p.time, p.last)

  -- of the row of any job, idle or live
  row_fits_sound : (j : ℕ) → j < jobs → RowFits (say_row j (row_in t j))
  row_fits_sound j within = go (dec_lt 0 (row_in t j).turn.0)
    where
      go : Dec (0 < (row_in t j).turn.0) → RowFits (say_row j (row_in t j))
      go (yes alive) =
          let p = table_sound t ok in
          let r = row_in t j in
          let q = (p.rows j).lives alive in
          let R = p.ranges.resources.1 in
          omega (
            arith,
            q.given,
            p.last,
            part_fits t.resources r.declared r.declared R q.in_range (inside_refl r.declared),
            part_fits t.resources r.held r.declared R q.in_range q.held_declared_lem,
            part_fits t.resources r.asked r.declared R q.in_range q.asked_declared_lem,
            q.waits_since,
            p.time,
          )
      go (no idles) =
          let zeros = ((table_sound t ok).rows j).idles (omega arith) in
          subst (λ (r : Row). RowFits (say_row j r)) (sym zeros) (omega arith)

  -- so of all rows that are written
  pub rows_fit_sound : length t.rows ≡ jobs → Every RowFits (rows_of t)
  rows_fit_sound long = each (line t.rows) (line_below t.rows)
    where
      each : (js : List ℕ) → Each (λ j. j < length t.rows) js → Every RowFits (map (λ j. say_row j (row_in t j)) js)
      each [] within = tt
      each (j ∷ js) within =
          (row_fits_sound j (omega (arith, each_head (λ j. j < length t.rows) j js within)), each js (each_tail (λ j. j < length t.rows) j js within))

-- ---- In order, and none twice

module _ (rows : List Row) where
  abbrev said : List ℕ → List FileRow
  said = map (λ j. say_row j (row_of rows j))

  -- turns that rise from m on are above any n up to m
  rising_ascends : (m : ℕ) (l : List ℕ) → Rising rows m l → (n : ℕ) → n ≤ m → ascend n (said l) ≡ true
  unfolding Rising ascend
  rising_ascends m [] rises n low = refl
  rising_ascends m (j ∷ l) rises n low =
      rw (lt-ltb n (row_of rows j).turn.0 (omega (arith, rises.0)))
      (rising_ascends (row_of rows j).turn.0 l rises.1 (row_of rows j).turn.0 (omega arith))

  -- a job of no higher turn than m is not among them
  rising_lacks :
      (m : ℕ) (l : List ℕ) → Rising rows m l → (j : ℕ) → (row_of rows j).turn.0 ≤ m → any (λ f. eqb j f.job) (said l) ≡ false
  unfolding Rising any
  rising_lacks m [] rises j low = refl
  rising_lacks m (k ∷ l) rises j low =
      let other : ¬ (j ≡ k) = λ e. omega (arith, rises.0, ap (λ (i : ℕ). (row_of rows i).turn.0) e) in
      rw (ne_eqb j k other) (rising_lacks (row_of rows k).turn.0 l rises.1 j (omega (arith, rises.0)))

  -- so none of them comes twice
  rising_once : (m : ℕ) (l : List ℕ) → Rising rows m l → once (said l) ≡ true
  unfolding Rising once
  rising_once m [] rises = refl
  rising_once m (j ∷ l) rises =
      rw (rising_lacks (row_of rows j).turn.0 l rises.1 j (omega arith)) (rising_once (row_of rows j).turn.0 l rises.1)

-- the rows that are written of a sound table are in order of turn, none has turn 0, and no job has two
pub rows_in_order : (t : Table) → sound t ≡ true → (ascend 0 (rows_of t) && once (rows_of t)) ≡ true
rows_in_order t ok =
    let walk = walk_start t.rows (table_sound t ok).distinct in
    rw (rising_ascends t.rows walk.last (line t.rows) walk.rises 0 (omega arith))
    (rising_once t.rows walk.last (line t.rows) walk.rises)

-- ---- The rows of a table, put into an empty one

-- rows that differ from those of a whole table only in these jobs become the same when these are put in
placed_same :
    (whole rows : List Row) (js : List ℕ) → Each (λ k. k < length rows) js →
    ((j : ℕ) → Each (λ k. k ≢ j) js → row_of rows j ≡ row_of whole j) → (j : ℕ) →
    row_of (placed rows (map (λ k. say_row k (row_of whole k)) js)) j ≡ row_of whole j
unfolding placed
placed_same whole rows [] within same = λ j. same j (each_none (λ k. k ≢ j))
placed_same whole rows (i ∷ js) within same =
    placed_same whole next js
    (λ p inside. omega (arith, each_tail (λ k. k < length rows) i js within p inside, length-set rows i (row_of whole i)))
    (λ j elsewhere. go j elsewhere (ℕ_discrete j i))
  where
    next : List Row
    next = set rows i (row_of whole i)

    go : (j : ℕ) → Each (λ k. k ≢ j) js → Dec (j ≡ i) → row_of next j ≡ row_of whole j
    go j elsewhere (yes e) =
        ap (row_of next) e ∙ get_or-set_same rows i (row_of whole i) idle (each_head (λ k. k < length rows) i js within)
        ∙ ap (row_of whole) (sym e)
    go j elsewhere (no e) =
        get_or-set_other rows i j (row_of whole i) idle e
        ∙ same j (each_cons (λ k. k ≢ j) i js (λ same. e (sym same)) elsewhere)

-- the live rows of a sound table make it whole
pub placed_whole :
    (t : Table) → length t.rows ≡ jobs → sound t ≡ true → placed (replicate jobs idle) (rows_of t) ≡ t.rows
placed_whole t long ok =
    let empty = replicate jobs idle in
    ext_get_or idle (placed empty (rows_of t)) t.rows (length_placed empty (rows_of t) ∙ length-replicate jobs idle ∙ sym long)
    (λ j within.
    placed_same t.rows empty (line t.rows)
    (λ p inside. omega (arith, line_below t.rows p inside, length-replicate jobs idle)) not_in_line j)
  where
    not_in_line : (j : ℕ) → Each (λ k. k ≢ j) (line t.rows) → row_of (replicate jobs idle) j ≡ row_in t j
    not_in_line j elsewhere = idle_rows jobs j ∙ sym (((table_sound t ok).rows j).idles (go (dec_lt 0 (row_in t j).turn.0)))
      where
        go : Dec (0 < (row_in t j).turn.0) → (row_in t j).turn.0 ≡ 0
        go (yes alive) =
            let place = line_place t.rows (table_sound t ok).distinct j alive in
            absurd (elsewhere (ahead t.rows (row_in t j).turn.0) place.0 place.1)
        go (no idles) = omega arith
