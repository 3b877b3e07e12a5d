-- The line when some have left is the line without them; and rows of the same turns stand in the same line.
use Rattle.std.specs.Prelude.{◌<◌, ◌∷◌, ◌≡◌}
use Rattle.sweep.specs.Prelude.{Bool, Each, InTurn, List, Row, [], ◌∙◌, ap, arith, at_set, cond, each_head, eq-eqb, false, idle, keep, length, length-set, line, lined, lined_in_turn, live, lt-ltb, ltb, ltb-true, ne_eqb, not, place, refl, row_of, set, sym, true, under, ℕ}
use Rattle.sweep.specs.Walking.{besides}

-- ---- What a list keeps

-- whether a job that is not kept is placed makes no difference
keep_placed : (f : ℕ → Bool) (rows : List Row) (j : ℕ) (l : List ℕ) → f j ≡ false → keep f (place rows j l) ≡ keep f l
unfolding keep place
keep_placed f rows j [] out = rw out
keep_placed f rows j (x ∷ l) out = go (ltb (row_of rows j).turn.0 (row_of rows x).turn.0) (keep_placed f rows j l out)
  where
    go :
        (b : Bool) → keep f (place rows j l) ≡ keep f l →
        keep f (cond b (j ∷ x ∷ l) (x ∷ place rows j l)) ≡ cond (f x) (x ∷ keep f l) (keep f l)
    go true ih = rw out
    go false ih = rw ih

-- whether jobs that are not kept are left out before makes none either
pub keep_within :
    (f g : ℕ → Bool) → ((j : ℕ) → g j ≡ false → f j ≡ false) → (l : List ℕ) → keep f (keep g l) ≡ keep f l
unfolding keep
keep_within f g out [] = refl
keep_within f g out (j ∷ l) = go (g j) refl (keep_within f g out l)
  where
    go :
        (b : Bool) → g j ≡ b → keep f (keep g l) ≡ keep f l →
        keep f (cond b (j ∷ keep g l) (keep g l)) ≡ cond (f j) (j ∷ keep f l) (keep f l)
    go true e ih = rw ih
    go false e ih = rw (out j e) ih

keep_all : (l : List ℕ) → keep (λ j. true) l ≡ l
unfolding keep
keep_all [] = refl
keep_all (j ∷ l) = ap (λ (l : List ℕ). j ∷ l) (keep_all l)

-- ---- Some leave

-- a job of lower turn than each of a list is placed at its front
place_first : (rows : List Row) (j : ℕ) (l : List ℕ) → Each (λ i. (row_of rows j).turn.0 < (row_of rows i).turn.0) l → place rows j l ≡ j ∷ l
unfolding place
place_first rows j [] lower = refl
place_first rows j (x ∷ l) lower =
    rw (lt-ltb (row_of rows j).turn.0 (row_of rows x).turn.0 (each_head (λ i. (row_of rows j).turn.0 < (row_of rows i).turn.0) x l lower))

-- whoever passes the test keeps its turn, and nobody else is live any more
module _ (f : ℕ → Bool) (rows rows' : List Row) (turns : (j : ℕ) → (row_of rows' j).turn.0 ≡ cond (f j) (row_of rows j).turn.0 0) where
  turn_kept : (j : ℕ) → f j ≡ true → (row_of rows' j).turn.0 ≡ (row_of rows j).turn.0
  turn_kept j e = turns j ∙ ap (λ (b : Bool). cond b (row_of rows j).turn.0 0) e

  place_kept : (j : ℕ) (l : List ℕ) → f j ≡ true → InTurn rows l → place rows' j (keep f l) ≡ keep f (place rows j l)
  unfolding place keep InTurn
  place_kept j [] stays sorted = rw stays
  place_kept j (x ∷ l) stays sorted =
      go (f x) refl (ltb (row_of rows j).turn.0 (row_of rows x).turn.0) refl (place_kept j l stays sorted.1)
    where
      go :
          (b : Bool) → f x ≡ b → (c : Bool) → ltb (row_of rows j).turn.0 (row_of rows x).turn.0 ≡ c →
          place rows' j (keep f l) ≡ keep f (place rows j l) →
          place rows' j (cond b (x ∷ keep f l) (keep f l)) ≡ keep f (cond c (j ∷ x ∷ l) (x ∷ place rows j l))
      go true e true lower ih = rw (turn_kept j stays, turn_kept x e, lower, stays, e)
      go true e false lower ih = rw (turn_kept j stays, turn_kept x e, lower, e, ih)
      go false e true lower ih =
          rw e
          (ih
          ∙ ap (keep f)
          (place_first rows j l (λ i within. omega (arith, ltb-true (row_of rows j).turn.0 (row_of rows x).turn.0 lower, sorted.0 i within))))
      go false e false lower ih = rw e ih

  lined_kept : (js : List ℕ) → lined rows' js ≡ keep f (lined rows js)
  unfolding lined keep
  lined_kept [] = refl
  lined_kept (j ∷ js) = go (f j) refl (live (row_of rows j)) refl (lined_kept js)
    where
      go :
          (b : Bool) → f j ≡ b → (c : Bool) → live (row_of rows j) ≡ c → lined rows' js ≡ keep f (lined rows js) →
          cond (live (row_of rows' j)) (place rows' j (lined rows' js)) (lined rows' js)
          ≡ keep f (cond c (place rows j (lined rows js)) (lined rows js))
      go true e true alive ih =
          rw (turn_kept j e, alive)
          (ap (place rows' j) ih ∙ place_kept j (lined rows js) e (lined_in_turn rows js))
      go true e false alive ih = rw (turn_kept j e, alive) ih
      go false e true alive ih = rw (turns j, e) (ih ∙ sym (keep_placed f rows j (lined rows js) e))
      go false e false alive ih = rw (turns j, e) ih

  -- the line without those who left
  pub line_kept : length rows' ≡ length rows → line rows' ≡ keep f (line rows)
  line_kept long = ap (λ (n : ℕ). lined rows' (under n)) long ∙ lined_kept (under (length rows))

-- nobody leaves
pub line_turns :
    (rows rows' : List Row) → ((j : ℕ) → (row_of rows j).turn.0 ≡ (row_of rows' j).turn.0) → length rows ≡ length rows' →
    line rows ≡ line rows'
line_turns rows rows' same long = line_kept (λ j. true) rows' rows same long ∙ keep_all (line rows')

-- one leaves: its row becomes idle
pub line_besides : (rows : List Row) (k : ℕ) → k < length rows → line (set rows k idle) ≡ keep (besides k) (line rows)
line_besides rows k below =
    line_kept (besides k) rows (set rows k idle)
    (at_set (λ j r. r.turn.0 ≡ cond (besides k j) (row_of rows j).turn.0 0) rows k idle below
    (sym (ap (λ (b : Bool). cond (not b) (row_of rows k).turn.0 0) (eq-eqb k k refl)))
    (λ j e. sym (ap (λ (b : Bool). cond (not b) (row_of rows j).turn.0 0) (ne_eqb k j (λ e'. e (sym e'))))))
    (length-set rows k idle)
