-- The conditions on a live row are those beside what stands before it, its turn's and its resources'; and what code tests
-- of a row, by unions of sets, is what those conditions say one by one.
use Rattle.std.specs.Prelude.{◌&&◌, ◌||◌, ◌≡◌}
use Rattle.soundness.specs.Prelude.{Bool, Row, ◌∙◌, all, and_assoc, and-false, and-true, ap, arith, below, cond, eqb, eqb-true, false, holds, implies, inside, inside_both, inside_empty, le-leb, leb, live, lt-ltb, ltb, meets, meets_comm, meets_empty, meets_union, ne_eqb, not, or-false, or-true, refl, suc, sym, true, union, union_none, zero, ℕ}
use Rattle.soundness.specs.Beside.{beside_by, holder_by, row_by}
use Rattle.soundness.specs.Conditions.{declares_some}

-- ---- Any conditions

-- of three the third may come before the second
swapped : (a b c rest : Bool) → (a && (b && (c && rest))) ≡ ((a && c) && (b && rest))
swapped true b true rest = refl
swapped true b false rest = and-false b
swapped false b c rest = refl

-- two that hold and two that do not, put together
gathered : (a b n f rest : Bool) → (((a && b) && not (n || f)) && rest) ≡ (a && (b && (not n && (not f && rest))))
gathered true true true f rest = refl
gathered true true false f rest = refl
gathered true false n f rest = refl
gathered false b n f rest = refl

-- where the fourth fails, all fail
failing : (a b c : Bool) → false ≡ (a && (b && (c && false)))
failing a b c = rw (and-false c, and-false b, and-false a)

pub row_beside :
    (T R time last : ℕ) (r : Row) (before : ℕ) (forbidden : ℕ → Bool) → live r ≡ true →
    holds (row_by T R time last r before forbidden)
    ≡ ((leb r.turn.0 last && below r.declared R) && holds (beside_by T time r before forbidden))
unfolding all
row_beside T R time last r before forbidden h =
    rw h (swapped (leb r.turn.0 last) (declares_some (ltb before T) r) (below r.declared R) _)

-- ---- What code tests of a row

-- with a token, `since` is zero unless something is asked, and then it is no later than true time
waiting_time :
    (asked since time : ℕ) (m : Bool) →
    cond (eqb asked 0) (eqb since 0) (m && leb since time)
    ≡ (implies (ltb 0 asked) m && (leb since time && (implies (not (ltb 0 asked)) (eqb since 0) && true)))
waiting_time zero since time m = go (eqb since 0) refl
  where
    go : (b : Bool) → eqb since 0 ≡ b → b ≡ (leb since time && (b && true))
    go true e = rw (eqb-true since 0 e, le-leb 0 time (omega arith))
    go false e = sym (and-false (leb since time))
waiting_time (suc n) since time m = rw (ne_eqb (suc n) 0 (omega arith), lt-ltb 0 (suc n) (omega arith), and-true)

-- without a token nothing is held and nothing asked
tokenless :
    (declared held asked claims : ℕ) (rest : Bool) →
    (eqb (union held asked) 0 && rest)
    ≡ (inside held declared
    && (inside asked declared
    && (not (meets held asked)
    && (implies (ltb 0 held) false
    && (implies (ltb 0 asked) false
    && (not (meets claims held) && (implies (ltb 0 asked) (meets claims asked) && (rest && true))))))))
tokenless declared zero zero claims rest = rw (union_none, inside_empty, meets_empty 0, meets_empty claims, and-true)
tokenless declared zero (suc a) claims rest =
    rw (union_none, ne_eqb (suc a) 0 (omega arith), lt-ltb 0 (suc a) (omega arith))
    (failing (inside 0 declared) (inside (suc a) declared) (not (meets 0 (suc a))))
tokenless declared (suc h) asked claims rest =
    rw (union_none, ne_eqb (suc h) 0 (omega arith), lt-ltb 0 (suc h) (omega arith))
    (failing (inside (suc h) declared) (inside asked declared) (not (meets (suc h) asked)))

module _ (T time : ℕ) (r : Row) (before claims : ℕ) where
  pub holder_beside : ltb before T ≡ true → holder_by time r claims ≡ holds (beside_by T time r before (meets claims))
  unfolding all
  holder_beside has =
      rw (
        inside_both r.held r.asked r.declared,
        meets_union r.held r.asked claims,
        meets_comm r.held claims,
        has,
        or-true,
        or-true,
        or-true,
        waiting_time r.asked r.since time (meets claims r.asked),
      )
      (gathered (inside r.held r.declared) (inside r.asked r.declared) (meets r.held r.asked)
      (meets claims r.held) _)

  pub tokenless_beside :
      ltb before T ≡ false →
      ((ltb 0 r.declared && eqb (union r.held r.asked) 0) && leb r.since time)
      ≡ holds (beside_by T time r before (meets claims))
  unfolding all
  tokenless_beside has =
      rw (has, or-false)
      (and_assoc (ltb 0 r.declared) (eqb (union r.held r.asked) 0) (leb r.since time)
      ∙ ap (λ (b : Bool). ltb 0 r.declared && b)
      (tokenless r.declared r.held r.asked claims (leb r.since time)))
