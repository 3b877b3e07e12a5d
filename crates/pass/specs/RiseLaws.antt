-- Turns that rise along the line: live rows of distinct turns.
use Rattle.std.specs.Prelude.{◌&&◌, ◌+◌, ◌<◌, ◌||◌, ◌∷◌, ◌≡◌, ◌≤◌}
use Rattle.pass.specs.Prelude.{Bool, Each, InTurn, List, Row, [], ◌∙◌, all, and_left, and_right, ap, arith, bit, count, count_line, distinct, each_all, each_cons, each_head, each_none, each_tail, eq-eqb, eqb, eqb-true, false, fun_ext, get_or, idle, implies, le_of_suc-le-suc, length, line, lined_in_turn, live, lt-ltb, ltb, ltb-true, ne_eqb, not, not-suc-le-zero, refl, row_of, same, suc, suc-le-suc, sym, true, under, zero, zero-add, zero-lt-suc, ℕ, ℕ_discrete}

-- ---- Tests of all

-- all pass where none fails
all_none : {A : Type 0} (f : A → Bool) (l : List A) → all f l ≡ eqb (count (λ x. not (f x)) l) 0
unfolding all count
all_none f [] = refl
all_none f (x ∷ l) = go (f x) (all_none f l)
  where
    go :
        (b : Bool) → all f l ≡ eqb (count (λ x. not (f x)) l) 0 →
        (b && all f l) ≡ eqb (bit (not b) + count (λ x. not (f x)) l) 0
    go true ih = rw zero-add ih
    go false ih = sym (ne_eqb (1 + count (λ x. not (f x)) l) 0 (λ e. omega arith))

-- all of the line pass a test of their rows where all live rows do
pub all_line :
    (g : Row → Bool) (rows : List Row) → all (λ j. g (row_of rows j)) (line rows) ≡ all (λ r. implies (live r) (g r)) rows
all_line g rows =
    all_none (λ j. g (row_of rows j)) (line rows)
    ∙ ap (λ (n : ℕ). eqb n 0)
    (count_line (λ r. not (g r)) rows ∙ ap (λ (f : Row → Bool). count f rows) (fun_ext (λ r. fails (live r) (g r))))
    ∙ sym (all_none (λ r. implies (live r) (g r)) rows)
  where
    fails : (a b : Bool) → (a && not b) ≡ not (implies a b)
    fails true b = refl
    fails false b = refl

module _ (f : ℕ → Bool) where
  -- all pass exactly if each does
  all_jobs : (l : List ℕ) → all f l ≡ true → Each (λ j. f j ≡ true) l
  unfolding all
  all_jobs [] e = each_none (λ j. f j ≡ true)
  all_jobs (j ∷ l) e =
      each_cons (λ k. f k ≡ true) j l (and_left (f j) (all f l) e) (all_jobs l (and_right (f j) (all f l) e))

  jobs_all : (l : List ℕ) → Each (λ j. f j ≡ true) l → all f l ≡ true
  unfolding all
  jobs_all [] each = refl
  jobs_all (j ∷ l) each =
      rw (each_head (λ k. f k ≡ true) j l each) (jobs_all l (each_tail (λ k. f k ≡ true) j l each))

  -- who passes is counted
  counted_at : (l : List ℕ) (i : ℕ) → i < length l → f (get_or l i 0) ≡ true → 0 < count f l
  unfolding count
  counted_at [] i h e = absurd (not-suc-le-zero h)
  counted_at (j ∷ l) zero h e = rw e (omega arith)
  counted_at (j ∷ l) (suc i) h e = omega (arith, counted_at l i (le_of_suc-le-suc h) e)

-- ---- Turns that rise

module _ (rows : List Row) where
  abbrev turn_of : ℕ → ℕ
  turn_of j = (row_of rows j).turn.0

  -- each turn is above the one before, the first above m
  unfoldable pub rising : ℕ → List ℕ → Bool
  rising m [] = true
  rising m (j ∷ l) = ltb m (turn_of j) && rising (turn_of j) l

  -- how many of a list have turn n
  abbrev bearers : ℕ → List ℕ → ℕ
  bearers n l = count (λ j. eqb (turn_of j) n) l

  -- where turns rise above m, no turn up to m is there
  none_low : (m n : ℕ) (l : List ℕ) → rising m l ≡ true → n ≤ m → bearers n l ≡ 0
  unfolding rising count
  none_low m n [] e h = refl
  none_low m n (j ∷ l) e h =
      let above : m < turn_of j = ltb-true m (turn_of j) (and_left (ltb m (turn_of j)) (rising (turn_of j) l) e) in
      rw (ne_eqb (turn_of j) n (λ e. omega arith), zero-add)
      (none_low (turn_of j) n l (and_right (ltb m (turn_of j)) (rising (turn_of j) l) e) (omega arith))

  -- and none is there twice
  rising_once : (m n : ℕ) (l : List ℕ) → rising m l ≡ true → bearers n l ≤ 1
  unfolding rising count
  rising_once m n [] e = omega arith
  rising_once m n (j ∷ l) e =
      let more : rising (turn_of j) l ≡ true = and_right (ltb m (turn_of j)) (rising (turn_of j) l) e in
      go (ℕ_discrete (turn_of j) n) (none_low (turn_of j) n l more) (rising_once (turn_of j) n l more)
    where
      go :
          Dec (turn_of j ≡ n) → (n ≤ turn_of j → bearers n l ≡ 0) → bearers n l ≤ 1 → bit (eqb (turn_of j) n) + bearers n l ≤ 1
      go (yes same) none once = rw (eq-eqb (turn_of j) n same, none (omega arith)) (omega arith)
      go (no other) none once = rw (ne_eqb (turn_of j) n other, zero-add) once

  -- turns in order rise if none is there twice
  once_rising :
      (m : ℕ) (l : List ℕ) → InTurn rows l → Each (λ j. m < turn_of j) l → Each (λ j. bearers (turn_of j) l ≤ 1) l →
      rising m l ≡ true
  unfolding rising count InTurn
  once_rising m [] sorted above once = refl
  once_rising m (j ∷ l) sorted above once =
      rw (lt-ltb m (turn_of j) (each_head (λ k. m < turn_of k) j l above))
      (once_rising (turn_of j) l sorted.1 (λ i h. higher i h) (λ i h. omega (arith, once (suc i) (suc-le-suc h))))
    where
      higher : (i : ℕ) → i < length l → turn_of j < turn_of (get_or l i 0)
      higher i h = go (ℕ_discrete (turn_of (get_or l i 0)) (turn_of j))
        where
          go : Dec (turn_of (get_or l i 0) ≡ turn_of j) → turn_of j < turn_of (get_or l i 0)
          go (yes same) =
              absurd
              (omega (
                arith,
                ap bit (eq-eqb (turn_of j) (turn_of j) refl),
                once 0 (zero-lt-suc (length l)),
                counted_at (λ k. eqb (turn_of k) (turn_of j)) l i h (eq-eqb (turn_of (get_or l i 0)) (turn_of j) same),
              ))
          go (no other) = omega (arith, sorted.0 i h)

  -- a job is the only one of its turn in line
  abbrev single : ℕ → Bool
  single j = eqb (bearers (turn_of j) (line rows)) 1

  -- every job in line is live
  line_live : Each (λ j. 0 < turn_of j) (line rows)
  line_live i h = ltb-true 0 (turn_of (get_or (line rows) i 0)) (all_jobs (λ j. live (row_of rows j)) (line rows) alive i h)
    where
      always : (a : Bool) → implies a a ≡ true
      always true = refl
      always false = refl

      alive : all (λ j. live (row_of rows j)) (line rows) ≡ true
      alive = all_line live rows ∙ each_all (λ r. implies (live r) (live r)) idle rows (λ k. always (live (row_of rows k)))

  -- the turns of the line rise exactly if no two live rows share a turn
  pub rising_distinct : rising 0 (line rows) ≡ distinct rows
  unfolding distinct
  rising_distinct =
      same (rising 0 (line rows)) (all single (line rows)) there back
      ∙ all_line (λ r. eqb (bearers r.turn.0 (line rows)) 1) rows
      ∙ ap (λ (f : Row → ℕ). all (λ r. not (live r) || eqb (f r) 1) rows)
      (fun_ext (λ r. count_line (λ q. eqb q.turn.0 r.turn.0) rows))
    where
      there : rising 0 (line rows) ≡ true → all single (line rows) ≡ true
      there e =
          jobs_all single (line rows)
          (λ i h.
          let t = turn_of (get_or (line rows) i 0) in
          eq-eqb (bearers t (line rows)) 1
          (omega (
            arith,
            rising_once 0 t (line rows) e,
            counted_at (λ k. eqb (turn_of k) t) (line rows) i h (eq-eqb t t refl),
          )))

      back : all single (line rows) ≡ true → rising 0 (line rows) ≡ true
      back e =
          once_rising 0 (line rows) (lined_in_turn rows (under (length rows))) line_live
          (λ i h.
          omega (arith, eqb-true (bearers (turn_of (get_or (line rows) i 0)) (line rows)) 1 (all_jobs single (line rows) e i h)))
