-- Laws along the line: at its beginning, at each job, at its end.
use Rattle.std.specs.Prelude.{◌&&◌, ◌+◌, ◌<◌, ◌||◌, ◌∷◌, ◌≡◌}
use Rattle.line.specs.Prelude.{Bool, Each, InTurn, List, Row, Standing, Stands, [], ◌∙◌, add_assoc, add-zero, ahead, and_assoc, any, any_count, ap, arith, behind, bit, claims, count, count_line, count_never, each_cons, each_head, each_tail, earlier, false, front, fun_ext, get_or, in_way_ahead, in_way, inside, le-ltb, line, live, ltb, meet, meets, meets_comm, meets_empty, meets_union, not_earlier, or_assoc, or-false, refl, row_of, sym, true, turn_earlier, union, zero-add, ℕ}
use Rattle.line.specs.Along.{Along}

-- ---- Tests that no job of a list passes

module _ (f : ℕ → Bool) where
  count_none : (l : List ℕ) → Each (λ j. f j ≡ false) l → count f l ≡ 0
  unfolding count
  count_none [] none = refl
  count_none (j ∷ l) none =
      rw (each_head (λ k. f k ≡ false) j l none, zero-add) (count_none l (each_tail (λ k. f k ≡ false) j l none))

  any_none : (l : List ℕ) → Each (λ j. f j ≡ false) l → any f l ≡ false
  any_none l none = any_count f l ∙ ap (ltb 0) (count_none l none)

-- ---- At the beginning

same_twice : (a b : Bool) → (a && (a && b)) ≡ (a && b)
same_twice true b = refl
same_twice false b = refl

-- as many of the line pass a test that only live rows pass as rows do
count_alive : (g : Row → Bool) (rows : List Row) → count (λ j. live (row_of rows j) && g (row_of rows j)) (line rows) ≡ count (λ r. live r && g r) rows
count_alive g rows =
    count_line (λ r. live r && g r) rows ∙ ap (λ (h : Row → Bool). count h rows) (fun_ext (λ r. same_twice (live r) (g r)))

-- nothing stands before the whole line
pub along_start : (rows : List Row) → Along rows front 0 (line rows)
unfolding ahead in_way meets meet
along_start rows =
    record {
      counted = λ n above. zero-add (count (λ j. earlier n (row_of rows j)) (line rows)) ∙ count_alive (λ r. ltb r.turn.0 n) rows;
      claimed = λ n x above.
          any_count (λ j. claims n x (row_of rows j)) (line rows)
          ∙ ap (ltb 0) (regrouped n x);
    }
  where
    regrouped : (n x : ℕ) → count (λ j. claims n x (row_of rows j)) (line rows) ≡ count (claims n x) rows
    regrouped n x =
        ap (λ (h : ℕ → Bool). count h (line rows)) (fun_ext (λ j. and_assoc (live (row_of rows j)) (ltb (row_of rows j).turn.0 n) (meets (row_of rows j).declared x)))
        ∙ count_alive (λ r. ltb r.turn.0 n && meets r.declared x) rows
        ∙ ap (λ (h : Row → Bool). count h rows) (fun_ext (λ r. sym (and_assoc (live r) (ltb r.turn.0 n) (meets r.declared x))))

-- nothing stands before turn 0
pub nobody_before : (rows : List Row) → Stands rows 0 front
unfolding ahead
nobody_before rows =
    let none : ahead rows 0 ≡ 0 =
    ap (λ (f : Row → Bool). count f rows) (fun_ext (λ r. not_earlier 0 r (omega arith))) ∙ count_never rows in
    record {
      before = sym none;
      forbids = λ x.
          meets_comm 0 x ∙ meets_empty x ∙ sym (le-ltb 0 (in_way rows 0 x) (omega (arith, none, in_way_ahead rows 0 x)));
    }

-- ---- At each job

module _ (rows : List Row) (s : Standing) (m j : ℕ) (left : List ℕ) (above : m < (row_of rows j).turn.0)
    (sorted : InTurn rows (j ∷ left)) (along : Along rows s m (j ∷ left)) where
  -- nobody from the next job on is of lower turn than it
  nobody_earlier : Each (λ k. earlier (row_of rows j).turn.0 (row_of rows k) ≡ false) (j ∷ left)
  unfolding InTurn
  nobody_earlier =
      each_cons (λ k. earlier (row_of rows j).turn.0 (row_of rows k) ≡ false) j left
      (not_earlier (row_of rows j).turn.0 (row_of rows j) (omega arith))
      (λ i inside. not_earlier (row_of rows j).turn.0 (row_of rows (get_or left i 0)) (sorted.0 i inside))

  nobody_claims : (x : ℕ) → Each (λ k. claims (row_of rows j).turn.0 x (row_of rows k) ≡ false) (j ∷ left)
  nobody_claims x i inside =
      ap (λ (b : Bool). b && meets (row_of rows (get_or (j ∷ left) i 0)).declared x) (nobody_earlier i inside)

  -- what stands before the next job is its standing
  pub along_stands : Stands rows (row_of rows j).turn.0 s
  along_stands =
      record {
        before =
            sym (add-zero s.ahead)
            ∙ ap (λ (n : ℕ). s.ahead + n) (sym (count_none (λ k. earlier (row_of rows j).turn.0 (row_of rows k)) (j ∷ left) nobody_earlier))
            ∙ along.counted (row_of rows j).turn.0 above;
        forbids = λ x.
            sym (or-false (meets s.claims x))
            ∙ ap (λ (b : Bool). meets s.claims x || b) (sym (any_none (λ k. claims (row_of rows j).turn.0 x (row_of rows k)) (j ∷ left) (nobody_claims x)))
            ∙ along.claimed (row_of rows j).turn.0 x above;
      }

  -- the next job is of lower turn than every turn above its own
  earlier_now : (n : ℕ) → (row_of rows j).turn.0 < n → earlier n (row_of rows j) ≡ true
  earlier_now n more = turn_earlier n (row_of rows j) (omega arith) more

  -- after it one more stands before the rest
  pub along_step : Along rows (behind s (row_of rows j)) (row_of rows j).turn.0 left
  unfolding count any
  along_step =
      record {
        counted = λ n more.
            add_assoc s.ahead 1 (count (λ k. earlier n (row_of rows k)) left)
            ∙ ap (λ (b : Bool). s.ahead + (bit b + count (λ k. earlier n (row_of rows k)) left)) (sym (earlier_now n more))
            ∙ along.counted n (omega arith);
        claimed = λ n x more.
            ap (λ (b : Bool). b || any (λ k. claims n x (row_of rows k)) left) (joined x)
            ∙ or_assoc (meets s.claims x) (meets (row_of rows j).declared x) (any (λ k. claims n x (row_of rows k)) left)
            ∙ ap (λ (b : Bool). meets s.claims x || ((b && meets (row_of rows j).declared x) || any (λ k. claims n x (row_of rows k)) left)) (sym (earlier_now n more))
            ∙ along.claimed n x (omega arith);
      }
    where
      joined : (x : ℕ) → meets (union s.claims (row_of rows j).declared) x ≡ (meets s.claims x || meets (row_of rows j).declared x)
      joined x =
          meets_comm (union s.claims (row_of rows j).declared) x
          ∙ meets_union x s.claims (row_of rows j).declared
          ∙ (λ i. meets_comm x s.claims i || meets_comm x (row_of rows j).declared i)

-- ---- At the end

-- it is the standing of every higher turn
pub along_end : (rows : List Row) (s : Standing) (m n : ℕ) → m < n → Along rows s m [] → Stands rows n s
unfolding count any
along_end rows s m n above along =
    record {
      before = sym (add-zero s.ahead) ∙ along.counted n above;
      forbids = λ x. sym (or-false (meets s.claims x)) ∙ along.claimed n x above;
    }
