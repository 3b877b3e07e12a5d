-- What the tests on sets say of single resources: the refusals 11 to 15, Q3, and the set conditions of a sound row.
use Rattle.std.specs.Prelude.{◌<◌, ◌↔◌, ◌≡◌, ◌||◌, ◌⊎◌}
use Rattle.arbiter.specs.Prelude.{Above, Apart, Ask, Beyond, Bool, GiveUp, InTheWay, List, None, Reads, Release, Row, Shared, Some, Table, Tick, Under, Within, ◌and◌, ◌∙◌, ap, arith, below, below_reads, blocked, case, empty, eqb, eqb-false, eqb-true, false, hold, holds, in_way_at, in_way_some, in_way, inl, inr, inside, inside_reads, le-leb, leb-true, lt-ltb, ltb, ltb-false, ltb-true, meets_reads, member, none, nth, or-true, reading, reads_not, refl, row_of, some_member, sym, true, true≢false, ℕ, ⊎_elim}
use Rattle.arbiter.specs.Refusals.{cases}
use Rattle.grounds.specs.Grounds.{set_cases}
use Rattle.arbiter.specs.OwnRow.{OwnRow}
use Rattle.arbiter.specs.Sound.{declares_some, own_conditions, token_of}

-- a number is 0 exactly if it has no member
empty_reads : (s : ℕ) → Reads (eqb s 0) (None s) (Some s)
empty_reads s =
    reading (eqb s 0) (λ e. (empty s).0 (eqb-true s 0 e)) (λ e. some_member s (omega (arith, eqb-false s 0 e)))
    (λ none some. true≢false (sym some.1 ∙ none some.0))

-- ---- Refusals

-- 11: the set has no member
pub empty_set_reads : (R s : ℕ) → Reads (case 11 (set_cases R s)) (None s) (Some s)
unfolding case
empty_set_reads R s = empty_reads s

-- 12: some member is R or above
pub no_such_resource_reads : (R s : ℕ) → Reads (case 12 (set_cases R s)) (Above s R) (Under s R)
unfolding case
no_such_resource_reads R s = reads_not (below s R) (below_reads s R)

module _ (n : ℕ) (t : Table) (j : ℕ) (tick : Tick) (s : ℕ) where
  -- 13: some member is not declared, of an ask and of a give up
  pub not_declared_reads :
      Reads (case 13 (cases n t (Ask j tick s))) (Beyond s (row_of t.rows j).declared) (Within s (row_of t.rows j).declared)
  unfolding case
  not_declared_reads = reads_not (inside s (row_of t.rows j).declared) (inside_reads s (row_of t.rows j).declared)

  pub given_up_reads :
      Reads (case 13 (cases n t (GiveUp j tick s))) (Beyond s (row_of t.rows j).declared) (Within s (row_of t.rows j).declared)
  unfolding case
  given_up_reads = not_declared_reads

  -- 14: some member is held already
  pub already_held_reads :
      Reads (case 14 (cases n t (Ask j tick s))) (Shared s (row_of t.rows j).held) (Apart s (row_of t.rows j).held)
  unfolding case
  already_held_reads = meets_reads s (row_of t.rows j).held

  -- 15: some member is not held
  pub not_held_reads :
      Reads (case 15 (cases n t (Release j tick s))) (Beyond s (row_of t.rows j).held) (Within s (row_of t.rows j).held)
  unfolding case
  not_held_reads = reads_not (inside s (row_of t.rows j).held) (inside_reads s (row_of t.rows j).held)

-- ---- Q3

-- a set is forbidden exactly if some live row of lower turn declares some member of it
pub blocked_reads :
    (rows : List Row) (n s : ℕ) →
    Reads (blocked rows n s)
    (InTheWay rows n s)
    ((k : ℕ) → 0 < (row_of rows k).turn.0 → (row_of rows k).turn.0 < n → Apart (row_of rows k).declared s)
blocked_reads rows n s =
    reading (blocked rows n s) (λ e. in_way_some rows n s (ltb-true 0 (in_way rows n s) e)) nobody
    (λ w free. true≢false (sym w.wanted ∙ free w.job w.alive w.before w.resource w.declared))
  where
    nobody :
        blocked rows n s ≡ false → (k : ℕ) → 0 < (row_of rows k).turn.0 → (row_of rows k).turn.0 < n →
        Apart (row_of rows k).declared s
    nobody e k alive before a own = go (member s a) refl
      where
        go : (b : Bool) → member s a ≡ b → b ≡ false
        go true m =
            let w : InTheWay rows n s = record { job = k; alive = alive; before = before; resource = a; declared = own; wanted = m } in
            absurd (omega (arith, in_way_at rows n s w, ltb-false 0 (in_way rows n s) e))
        go false m = refl

-- ---- Sound rows

-- a row declares some resource, or has a token
declares_reads : (t : Table) (r : Row) → (declares_some (token_of t r) r ≡ true) ↔ (Some r.declared ⊎ (token_of t r ≡ true))
declares_reads t r = (λ e. go (ltb 0 r.declared) refl e, ⊎_elim from_some from_token)
  where
    go : (b : Bool) → ltb 0 r.declared ≡ b → (b || token_of t r) ≡ true → Some r.declared ⊎ (token_of t r ≡ true)
    go true q e = inl (some_member r.declared (ltb-true _ _ q))
    go false q e = inr e

    from_some : Some r.declared → declares_some (token_of t r) r ≡ true
    from_some some =
        ap (λ (b : Bool). b || token_of t r)
        (lt-ltb 0 r.declared (omega (arith, eqb-false r.declared 0 ((empty_reads r.declared).fails.1 some))))

    from_token : token_of t r ≡ true → declares_some (token_of t r) r ≡ true
    from_token has = ap (λ (b : Bool). ltb 0 r.declared || b) has ∙ or-true (ltb 0 r.declared)

pub own_reads : (t : Table) (r : Row) → (holds (own_conditions t r) ≡ true) ↔ OwnRow t r
own_reads t r = (
  λ e.
      record {
        given = leb-true _ _ (nth (own_conditions t r) e 0);
        declares = (declares_reads t r).0 (nth (own_conditions t r) e 1);
        in_range = (below_reads r.declared t.resources).holds.0 (nth (own_conditions t r) e 2);
        held_declared_lem = (inside_reads r.held r.declared).holds.0 (nth (own_conditions t r) e 3);
        asked_declared_lem = (inside_reads r.asked r.declared).holds.0 (nth (own_conditions t r) e 4);
        apart = (reads_not _ (meets_reads r.held r.asked)).holds.0 (nth (own_conditions t r) e 5);
      },
  λ p.
      hold
      (le-leb _ _ p.given
      and (declares_reads t r).1 p.declares
      and (below_reads r.declared t.resources).holds.1 p.in_range
      and (inside_reads r.held r.declared).holds.1 p.held_declared_lem
      and (inside_reads r.asked r.declared).holds.1 p.asked_declared_lem
      and (reads_not _ (meets_reads r.held r.asked)).holds.1 p.apart
      and none),
)
