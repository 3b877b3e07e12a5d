-- A sound table in plain propositions: what the tests of `sound` say, and that they say no more.
use Rattle.std.specs.Prelude.{◌&&◌, ◌++◌, ◌<◌, ◌||◌, ◌≡◌, ◌≤◌}
use Rattle.kept.specs.Prelude.{Bool, List, Row, Table, all, all_each, ◌and◌, and_left, and_right, ap, arith, cond, counters, denied, denying, distinct, distinct_rows, distinct_test, each_all, eq-eqb, eqb-true, false, hold, holds, idle, idle_conditions, implied, implying, le-leb, le-ltb, le_of_eq, le-zero, leb, leb-true, live, lt-ltb, ltb, ltb-false, ltb-true, none, not, not-true, nth, or-false, or-true, own_conditions, place_conditions, ranges, refl, row_in, sound, sound_row, sym, true, waiting, waiting_reads, waiting_in, within, ℕ, ◌∙◌}
use Rattle.kept.specs.Sound.Words.{LiveRow, SoundRow, InRange, SoundTable}

-- ---- The propositions

-- a row of zeros is the idle row
zeros : (r : Row) → r.turn.0 ≡ 0 → r.declared ≡ 0 → r.held ≡ 0 → r.asked ≡ 0 → r.since ≡ 0 → r ≡ idle
zeros r turn declared held asked since =
    λ i. record { turn = record { 0 = turn i }; declared = declared i; held = held i; asked = asked i; since = since i }

-- ---- Rows

-- what one of two tests shows where the other fails, and back
other_shows : (a b : Bool) → (a || b) ≡ true → b ≡ false → a ≡ true
other_shows a b e off = sym (or-false a) ∙ ap (λ (c : Bool). a || c) (sym off) ∙ e

other_showing : (a b : Bool) → (b ≡ false → a ≡ true) → (a || b) ≡ true
other_showing a true h = or-true a
other_showing a false h = ap (λ (c : Bool). c || false) (h refl)

-- the tests of a live row
abbrev live_row : Table → Row → List Bool
live_row t r = own_conditions t r ++ place_conditions t r

module _ (t : Table) (r : Row) where
  live_row_lem : 0 < r.turn.0 → holds (live_row t r) ≡ true → LiveRow t r
  live_row_lem alive e = record {
    given = leb-true _ _ (nth (live_row t r) e 0);
    declares = λ h. ltb-true _ _ (other_shows _ _ (nth (live_row t r) e 1) (le-ltb _ _ h));
    in_range = nth (live_row t r) e 2;
    held_declared_lem = nth (live_row t r) e 3;
    asked_declared_lem = nth (live_row t r) e 4;
    apart = not-true _ (nth (live_row t r) e 5);
    holds_by_token = λ h. le-zero (ltb-false _ _ (denied _ _ (nth (live_row t r) e 6) (le-ltb _ _ h)));
    asks_by_token = λ h. le-zero (ltb-false _ _ (denied _ _ (nth (live_row t r) e 7) (le-ltb _ _ h)));
    held_free_lem = le-zero (ltb-false _ _ (not-true _ (nth (live_row t r) e 8)));
    asked_blocked_lem = λ h. ltb-true _ _ (implied _ _ (nth (live_row t r) e 9) (lt-ltb 0 r.asked h));
    waits_since = leb-true _ _ (nth (live_row t r) e 10);
    rests = λ h a.
        let still = (waiting_reads t.tokens t.rows r alive).fails.1 (h, a) in
        eqb-true _ _ (implied _ _ (nth (live_row t r) e 11) (ap not still));
  }

  row_live : 0 < r.turn.0 → LiveRow t r → holds (live_row t r) ≡ true
  row_live alive p =
      hold
      (le-leb _ _ p.given
      and other_showing (ltb 0 r.declared) _ (λ f. lt-ltb _ _ (p.declares (ltb-false _ _ f)))
      and p.in_range
      and p.held_declared_lem
      and p.asked_declared_lem
      and ap not p.apart
      and denying _ _ (λ f. le-ltb 0 r.held (le_of_eq (p.holds_by_token (ltb-false _ _ f))))
      and denying _ _ (λ f. le-ltb 0 r.asked (le_of_eq (p.asks_by_token (ltb-false _ _ f))))
      and ap not (le-ltb _ _ (le_of_eq p.held_free_lem))
      and implying (ltb 0 r.asked) _ (λ f. lt-ltb _ _ (p.asked_blocked_lem (ltb-true 0 r.asked f)))
      and le-leb _ _ p.waits_since
      and implying (not (waiting_in t r)) _ (λ f. eq-eqb _ _ (rests (not-true (waiting_in t r) f)))
      and none)
    where
      rests : waiting t.tokens t.rows r ≡ false → r.since ≡ 0
      rests f = let still = (waiting_reads t.tokens t.rows r alive).fails.0 f in p.rests still.0 still.1

  -- the conditions on a row, and back
  pub row_sound : sound_row t r ≡ true → SoundRow t r
  row_sound = go (live r) refl
    where
      go : (b : Bool) → live r ≡ b → holds (cond b (live_row t r) (idle_conditions r)) ≡ true → SoundRow t r
      go true l e = record { idles = λ z. absurd (omega (arith, ltb-true 0 r.turn.0 l)); lives = λ h. live_row_lem h e }
      go false l e = record {
        idles = λ z.
            zeros r z (eqb-true _ _ (nth (idle_conditions r) e 0)) (eqb-true _ _ (nth (idle_conditions r) e 1)) (eqb-true _ _ (nth (idle_conditions r) e 2))
            (eqb-true _ _ (nth (idle_conditions r) e 3));
        lives = λ h. absurd (omega (arith, ltb-false 0 r.turn.0 l));
      }

  pub sound_row_lem : SoundRow t r → sound_row t r ≡ true
  unfolding all
  sound_row_lem p = go (live r) refl
    where
      go : (b : Bool) → live r ≡ b → holds (cond b (live_row t r) (idle_conditions r)) ≡ true
      go true l = let h = ltb-true 0 r.turn.0 l in row_live h (p.lives h)
      go false l = rw (p.idles (le-zero (ltb-false 0 r.turn.0 l)))

-- an idle row is sound in any table
pub idle_sound : (t : Table) → SoundRow t idle
idle_sound t = record { idles = λ _. refl; lives = λ h. absurd (omega arith) }

-- ---- The table

within_range : (low high n : ℕ) → within low high n ≡ true → (low ≤ n) × (n ≤ high)
within_range low high n e =
    (leb-true low n (and_left (leb low n) (leb n high) e), leb-true n high (and_right (leb low n) (leb n high) e))

range_within : (low high n : ℕ) → (low ≤ n) × (n ≤ high) → within low high n ≡ true
range_within low high n h = rw (le-leb low n h.0) (le-leb n high h.1)

-- numbers in range, and back
pub ranges_in : (T R limit : ℕ) → holds (ranges T R limit) ≡ true → InRange T R limit
ranges_in T R limit e = record {
  tokens = within_range _ _ _ (nth (ranges T R limit) e 0);
  resources = within_range _ _ _ (nth (ranges T R limit) e 1);
  limit = within_range _ _ _ (nth (ranges T R limit) e 2);
}

in_ranges : (T R limit : ℕ) → InRange T R limit → holds (ranges T R limit) ≡ true
in_ranges T R limit p =
    hold (range_within _ _ _ p.tokens and range_within _ _ _ p.resources and range_within _ _ _ p.limit and none)

four : (a b c d : Bool) → (a && b && c && d) ≡ true → (a ≡ true) × (b ≡ true) × (c ≡ true) × (d ≡ true)
four a b c d e =
    let abc = and_left (a && b && c) d e in
    let ab = and_left (a && b) c abc in
    (and_left a b ab, and_right a b ab, and_right (a && b) c abc, and_right (a && b && c) d e)

-- a sound table, and back
pub table_sound : (t : Table) → sound t ≡ true → SoundTable t
unfolding sound
table_sound t e = go (four range (holds (counters t.time t.last.0)) (distinct t.rows) (all (sound_row t) t.rows) e)
  where
    range : Bool
    range = holds (ranges t.tokens t.resources t.limit)

    go :
        (range ≡ true) × (holds (counters t.time t.last.0) ≡ true) × (distinct t.rows ≡ true) × (all (sound_row t) t.rows ≡ true) →
        SoundTable t
    go p = record {
      ranges = ranges_in t.tokens t.resources t.limit p.0;
      time = leb-true _ _ (nth (counters t.time t.last.0) p.1 0);
      last = leb-true _ _ (nth (counters t.time t.last.0) p.1 1);
      distinct = distinct_rows t.rows p.2;
      rows = λ j.
          let each = all_each (sound_row t) idle (sound_row_lem t idle (idle_sound t)) t.rows p.3 j in
          row_sound t (row_in t j) each;
    }

pub sound_table : (t : Table) → SoundTable t → sound t ≡ true
unfolding sound
sound_table t p =
    rw (in_ranges t.tokens t.resources t.limit p.ranges, counter, distinct_test t.rows p.distinct)
    (each_all (sound_row t) idle t.rows (λ j. sound_row_lem t (row_in t j) (p.rows j)))
  where
    counter : holds (counters t.time t.last.0) ≡ true
    counter = hold (le-leb _ _ p.time and le-leb _ _ p.last and none)
