-- How the number ahead rises from turn to turn, and so how many live rows have fewer than T ahead.
use Rattle.std.specs.Prelude.{◌&&◌, ◌+◌, ◌<◌, ◌≡◌, ◌≤◌}
use Rattle.kept.specs.Prelude.{Bool, List, Row, ahead, ahead_mono, and-eq-true_iff, arith, bears, bears_own, bears_turn, bit, count, count_at, count_mono, count_some, count_sum, dec_le, distinct, distinct_at, earlier, earlier_turn, eqb, eqb-false, eqb-true, false, idle, le_antisymm, le-ltb, le_of_eq, live, lt-ltb, ltb, ltb-false, ltb-true, min, not-suc-le-zero, refl, row_of, suc, token, true, turn_earlier, zero, ℕ, ◌∙◌}
use Rattle.kept.specs.Sound.Words.{holds_token}

-- below the next number lie those below this one, and this one
below_next : (m n : ℕ) → bit (ltb m (suc n)) ≡ bit (ltb m n) + bit (eqb m n)
below_next m n = go (ltb m n) refl (eqb m n) refl
  where
    go : (a : Bool) → ltb m n ≡ a → (b : Bool) → eqb m n ≡ b → bit (ltb m (suc n)) ≡ bit a + bit b
    go true e true f = absurd (omega (arith, ltb-true m n e, eqb-true m n f))
    go true e false f = rw (lt-ltb m (suc n) (omega (arith, ltb-true m n e)))
    go false e true f = rw (lt-ltb m (suc n) (omega (arith, eqb-true m n f)))
    go false e false f =
        let apart = eqb-false m n f in
        rw (le-ltb m (suc n) (omega (arith, ltb-false m n e)))

module _ (rows : List Row) where
  -- one turn on, whoever bears that turn is ahead too
  pub ahead_suc : (n : ℕ) → ahead rows (suc n) ≡ ahead rows n + count (bears n) rows
  unfolding ahead
  ahead_suc n = count_sum (earlier n) (bears n) (earlier (suc n)) (λ r. each (live r) r.turn.0) rows
    where
      each : (b : Bool) (m : ℕ) → bit (b && ltb m (suc n)) ≡ bit (b && ltb m n) + bit (b && eqb m n)
      each true m = below_next m n
      each false m = refl

  -- nobody is ahead of turn 0, and only live rows are ahead of any
  ahead_zero : ahead rows 0 ≡ 0
  unfolding ahead
  ahead_zero =
      let none : ¬ (0 < count (earlier 0) rows) = λ h.
      let p = count_some (earlier 0) idle rows h in
      not-suc-le-zero (earlier_turn 0 (row_of rows p.0) p.1).1 in
      omega arith

  ahead_live : (n : ℕ) → ahead rows n ≤ count live rows
  unfolding ahead
  ahead_live n =
      count_mono live idle refl (earlier n) rows rows
      (λ k e. lt-ltb 0 (row_of rows k).turn.0 (earlier_turn n (row_of rows k) e).0)

  -- more are ahead just past the turn of a live row than at it
  ahead_behind : (k : ℕ) → 0 < (row_of rows k).turn.0 → ahead rows (row_of rows k).turn.0 < ahead rows (suc (row_of rows k).turn.0)
  ahead_behind k alive =
      let own = count_at (bears (row_of rows k).turn.0) idle refl rows k (bears_own (row_of rows k) alive) in
      omega (arith, ahead_suc (row_of rows k).turn.0)

  module _ (apart : distinct rows ≡ true) where
    bears_once : (n : ℕ) → count (bears n) rows ≤ 1
    bears_once n = go (dec_le (count (bears n) rows) 0)
      where
        go : Dec (count (bears n) rows ≤ 0) → count (bears n) rows ≤ 1
        go (yes h) = omega arith
        go (no h) =
            let p = count_some (bears n) idle rows (omega arith) in
            let q = bears_turn n (row_of rows p.0) p.1 in
            le_of_eq (rw q.1 at (distinct_at rows apart p.0 q.0))

    -- the number ahead skips none: each number up to that of turn n is that of some turn
    reached : (n k : ℕ) → k ≤ ahead rows n → (m : ℕ) × (ahead rows m ≡ k)
    reached zero k h = (0, omega (arith, ahead_zero))
    reached (suc n) k h = go (dec_le k (ahead rows n)) (reached n k)
      where
        go : Dec (k ≤ ahead rows n) → (k ≤ ahead rows n → (m : ℕ) × (ahead rows m ≡ k)) → (m : ℕ) × (ahead rows m ≡ k)
        go (yes low) more = more low
        go (no high) more = (suc n, omega (arith, ahead_suc n, bears_once n))

    -- where as many are ahead of turn n as there are tokens, or all if those are fewer, it is those who hold them
    module _ (T n : ℕ) (e : ahead rows n ≡ min T (count live rows)) where
      holders_before : (k : ℕ) → holds_token T rows (row_of rows k) ≡ true → earlier n (row_of rows k) ≡ true
      holders_before k f =
          let m = (row_of rows k).turn.0 in
          let p = (and-eq-true_iff (live (row_of rows k)) (token T rows m)).0 f in
          let alive = ltb-true 0 m p.0 in
          let has = ltb-true (ahead rows m) T p.1 in
          let before : ¬ (n ≤ m) = λ h. omega (arith, ahead_mono rows n m h, ahead_behind k alive, ahead_live (suc m)) in
          turn_earlier n (row_of rows k) alive (omega arith)

      before_holds : (k : ℕ) → earlier n (row_of rows k) ≡ true → holds_token T rows (row_of rows k) ≡ true
      before_holds k f =
          let m = (row_of rows k).turn.0 in
          let p = earlier_turn n (row_of rows k) f in
          let has : ahead rows m < T = omega (arith, ahead_behind k p.0, ahead_mono rows (suc m) n p.1) in
          rw (lt-ltb 0 m p.0) (lt-ltb (ahead rows m) T has)

      holders : count (holds_token T rows) rows ≡ ahead rows n
      unfolding ahead
      holders =
          le_antisymm
          (count_mono (earlier n) idle refl (holds_token T rows) rows rows holders_before)
          (count_mono (holds_token T rows) idle refl (earlier n) rows rows before_holds)

    -- T live rows hold a token, or all if there are fewer
    pub tokens_out :
        (T last : ℕ) → ((k : ℕ) → (row_of rows k).turn.0 ≤ last) → count (holds_token T rows) rows ≡ min T (count live rows)
    unfolding ahead
    tokens_out T last given =
        let everyone =
        count_mono (earlier (suc last)) idle refl live rows rows
        (λ k e. turn_earlier (suc last) (row_of rows k) (ltb-true 0 (row_of rows k).turn.0 e) (omega (arith, given k))) in
        let found = reached (suc last) (min T (count live rows)) (omega arith) in
        holders T found.0 found.1 ∙ found.1
