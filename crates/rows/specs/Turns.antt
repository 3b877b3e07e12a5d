-- What the tests of single rows say, and turns that no two live rows share.
use Rattle.std.specs.Prelude.{◌+◌, ◌<◌, ◌||◌, ◌≡◌, ◌≢◌, ◌≤◌, ◌⊎◌}
use Rattle.rows.specs.Prelude.{Bool, List, get_or-eq_default, Reads, Row, all_each, and-eq-true_iff, and-false, ap, arith, bit, count, count_at, count_set, count_some, each_all, eq-eqb, eqb, eqb-true, false, false≢true, get_or-set_other, get_or-set_same, inl, inr, le-ltb, le-zero, length, lt-ltb, ltb, ltb-false, ltb-true, not, reading, refl, set, sym, true, true≢false, ℕ, ℕ_discrete}
use Rattle.rows.specs.Line.{row_of}
use Rattle.rows.specs.Order.{ahead, alone, bears, distinct, earlier, idle, live, waiting}
use Rattle.rows.specs.Propositions.{Distinct}

-- a live row is one of the rows
pub live_within : (rows : List Row) (j : ℕ) → 0 < (row_of rows j).turn.0 → j < length rows
live_within rows j h =
    let within : ¬ (length rows ≤ j) = λ out. omega (arith, ap (λ (r : Row). r.turn.0) (get_or-eq_default rows idle out)) in
    omega arith

-- what holds of a row set at j and of every other row holds of each row after
pub at_set :
    (P : ℕ → Row → Type 0) (rows : List Row) (j : ℕ) (r : Row) → j < length rows → P j r →
    ((k : ℕ) → k ≢ j → P k (row_of rows k)) → (k : ℕ) → P k (row_of (set rows j r) k)
at_set P rows j r h this other k = go (ℕ_discrete k j)
  where
    go : Dec (k ≡ j) → P k (row_of (set rows j r) k)
    go (yes e) = rw (e, get_or-set_same rows j r idle h) this
    go (no e) = rw (get_or-set_other rows j k r idle e) (other k e)

-- a live row bears its turn, and only that
pub bears_own : (r : Row) → 0 < r.turn.0 → bears r.turn.0 r ≡ true
bears_own r h = rw (lt-ltb 0 r.turn.0 h) (eq-eqb r.turn.0 r.turn.0 refl)

pub bears_turn : (n : ℕ) (r : Row) → bears n r ≡ true → (0 < r.turn.0) × (r.turn.0 ≡ n)
bears_turn n r e =
    let p = (and-eq-true_iff (live r) (eqb r.turn.0 n)).0 e in
    (ltb-true 0 r.turn.0 p.0, eqb-true r.turn.0 n p.1)

-- an earlier row is live and has a lower turn, and back
pub earlier_turn : (n : ℕ) (r : Row) → earlier n r ≡ true → (0 < r.turn.0) × (r.turn.0 < n)
earlier_turn n r e =
    let p = (and-eq-true_iff (live r) (ltb r.turn.0 n)).0 e in
    (ltb-true 0 r.turn.0 p.0, ltb-true r.turn.0 n p.1)

pub turn_earlier : (n : ℕ) (r : Row) → 0 < r.turn.0 → r.turn.0 < n → earlier n r ≡ true
turn_earlier n r alive before = rw (lt-ltb 0 r.turn.0 alive) (lt-ltb r.turn.0 n before)

pub not_earlier : (n : ℕ) (r : Row) → n ≤ r.turn.0 → earlier n r ≡ false
not_earlier n r h = rw (le-ltb r.turn.0 n h) (and-false (live r))

clash : (a T s : ℕ) → (T ≤ a) ⊎ (0 < s) → (a < T) × (s ≡ 0) → ⊥
clash a T s (inl h) p = omega arith
clash a T s (inr h) p = omega arith

-- a live row waits without a token or while it asks, and does not with a token and nothing asked
pub waiting_reads :
    (T : ℕ) (rows : List Row) (r : Row) → 0 < r.turn.0 →
    Reads (waiting T rows r)
    ((T ≤ ahead rows r.turn.0) ⊎ (0 < r.asked))
    ((ahead rows r.turn.0 < T) × (r.asked ≡ 0))
waiting_reads T rows r h = rw (lt-ltb 0 r.turn.0 h) (go (ahead rows r.turn.0) r.asked)
  where
    go : (a s : ℕ) → Reads (not (ltb a T) || ltb 0 s) ((T ≤ a) ⊎ (0 < s)) ((a < T) × (s ≡ 0))
    go a s = reading (not (ltb a T) || ltb 0 s) (some (ltb a T) refl) (none (ltb a T) refl) (clash a T s)
      where
        some : (b : Bool) → ltb a T ≡ b → (not b || ltb 0 s) ≡ true → (T ≤ a) ⊎ (0 < s)
        some true e w = inr (ltb-true 0 s w)
        some false e w = inl (ltb-false a T e)

        none : (b : Bool) → ltb a T ≡ b → (not b || ltb 0 s) ≡ false → (a < T) × (s ≡ 0)
        none true e w = (ltb-true a T e, le-zero (ltb-false 0 s w))
        none false e w = absurd (true≢false w)

-- ---- Distinct turns

-- with a live row taken out, its turn is borne once less
others :
    (rows : List Row) (j : ℕ) → 0 < (row_of rows j).turn.0 →
    count (bears (row_of rows j).turn.0) (set rows j idle) + 1 ≡ count (bears (row_of rows j).turn.0) rows
others rows j h =
    let change = count_set (bears (row_of rows j).turn.0) rows j idle idle (live_within rows j h) in
    let own = ap bit (bears_own (row_of rows j) h) in
    omega arith

-- ---- The test of distinct turns says so of each two rows, and back

module _ (rows : List Row) where
  pub distinct_at : distinct rows ≡ true → (j : ℕ) → 0 < (row_of rows j).turn.0 → count (bears (row_of rows j).turn.0) rows ≡ 1
  unfolding distinct
  distinct_at e j h =
      eqb-true (count (bears (row_of rows j).turn.0) rows) 1
      (rw (lt-ltb 0 (row_of rows j).turn.0 h) at
      (all_each (alone rows) idle refl rows e j))

  pub distinct_rows : distinct rows ≡ true → Distinct rows
  distinct_rows e j k h same = go (ℕ_discrete k j)
    where
      go : Dec (k ≡ j) → j ≡ k
      go (yes p) = sym p
      go (no p) =
          let k-live : 0 < (row_of rows k).turn.0 = omega arith in
          let more =
          count_at (bears (row_of rows j).turn.0) idle refl (set rows j idle) k
          (rw (get_or-set_other rows j k idle idle p, same) (bears_own (row_of rows k) k-live)) in
          absurd (omega (arith, distinct_at e j h, others rows j h))

  pub distinct_test : Distinct rows → distinct rows ≡ true
  unfolding distinct
  distinct_test d =
      each_all (alone rows) idle rows
      (λ j. each j (live (row_of rows j)) refl)
    where
      -- nobody else bears the turn
      unshared : (j : ℕ) → 0 < (row_of rows j).turn.0 → ¬ (0 < count (bears (row_of rows j).turn.0) (set rows j idle))
      unshared j h more =
          let p = count_some (bears (row_of rows j).turn.0) idle (set rows j idle) more in
          at_set (λ k r. ¬ (bears (row_of rows j).turn.0 r ≡ true)) rows j idle (live_within rows j h) false≢true other
          p.0 p.1
        where
          other : (k : ℕ) → k ≢ j → ¬ (bears (row_of rows j).turn.0 (row_of rows k) ≡ true)
          other k ne e = ne (sym (d j k h (sym (bears_turn (row_of rows j).turn.0 (row_of rows k) e).1)))

      each : (j : ℕ) (b : Bool) → live (row_of rows j) ≡ b → (not b || eqb (count (bears (row_of rows j).turn.0) rows) 1) ≡ true
      each j true e =
          let h = ltb-true 0 (row_of rows j).turn.0 e in
          eq-eqb (count (bears (row_of rows j).turn.0) rows) 1 (omega (arith, unshared j h, others rows j h))
      each j false e = refl

-- ---- A row set at j shares no turn if no other row has its turn

pub distinct_set :
    (rows : List Row) (j : ℕ) (r : Row) → j < length rows → Distinct rows →
    ((k : ℕ) → k ≢ j → 0 < r.turn.0 → (row_of rows k).turn.0 ≢ r.turn.0) → Distinct (set rows j r)
distinct_set rows j r h d alone =
    λ a. at_set (λ a ra. (b : ℕ) → 0 < ra.turn.0 → ra.turn.0 ≡ (row_of (set rows j r) b).turn.0 → a ≡ b) rows j r h this other a
  where
    this : (b : ℕ) → 0 < r.turn.0 → r.turn.0 ≡ (row_of (set rows j r) b).turn.0 → j ≡ b
    this b alive =
        at_set (λ b rb. r.turn.0 ≡ rb.turn.0 → j ≡ b) rows j r h (λ _. refl)
        (λ k ne e. absurd (alone k ne alive (sym e))) b

    other : (a : ℕ) → a ≢ j → (b : ℕ) → 0 < (row_of rows a).turn.0 → (row_of rows a).turn.0 ≡ (row_of (set rows j r) b).turn.0 → a ≡ b
    other a ne b alive =
        at_set (λ b rb. (row_of rows a).turn.0 ≡ rb.turn.0 → a ≡ b) rows j r h (λ e. absurd (alone a ne (omega arith) e))
        (λ k _. d a k alive) b
