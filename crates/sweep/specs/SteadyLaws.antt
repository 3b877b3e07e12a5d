-- The rows of a sound table are steady, and its tokens are at most as many as jobs.
use Rattle.std.specs.Prelude.{◌&&◌, ◌-◌, ◌<◌, ◌^◌, ◌||◌, ◌≡◌, ◌≤◌}
use Rattle.sweep.specs.Prelude.{Bool, Bounds, Distinct, List, Row, ◌∙◌, ahead, all, all_each, and_left, and_right, ap, below, beside_by, blocked, counters, denied, distinct, distinct_rows, eqb, eqb-true, get_or, holds, idle, idle_conditions, implied, le-ltb, le-zero, leb, leb-true, lt-ltb, ltb, ltb-false, most, not, nth, ranges, refl, row_beside, row_of, sound_by, sound_in, sym, true, ℕ}
use Rattle.sweep.specs.Steady.{Steady}

module _ (b : Bounds) (rows : List Row) (sound : sound_by b rows ≡ true) where
  abbrev numbers_sound : Bool
  numbers_sound = holds (ranges b.tokens b.resources b.limit) && holds (counters b.time b.last.0)

  front_sound : (numbers_sound && distinct rows) ≡ true
  unfolding sound_by
  front_sound = and_left (numbers_sound && distinct rows) (all (sound_in b rows) rows) sound

  pub sound_distinct : Distinct rows
  sound_distinct = distinct_rows rows (and_right numbers_sound (distinct rows) front_sound)

  -- its numbers are in range
  in_range : holds (ranges b.tokens b.resources b.limit) ≡ true
  in_range =
      and_left (holds (ranges b.tokens b.resources b.limit)) (holds (counters b.time b.last.0))
      (and_left numbers_sound (distinct rows) front_sound)

  pub sound_tokens : b.tokens ≤ most
  sound_tokens =
      leb-true b.tokens most
      (and_right (leb 1 b.tokens) (leb b.tokens most) (nth (ranges b.tokens b.resources b.limit) in_range 0))

  pub sound_limit : 0 < b.limit
  sound_limit =
      leb-true 1 b.limit
      (and_left (leb 1 b.limit) (leb b.limit (2 ^ 32 - 1)) (nth (ranges b.tokens b.resources b.limit) in_range 2))

  -- each row is sound
  row_sound : (j : ℕ) → sound_in b rows (row_of rows j) ≡ true
  unfolding sound_by all
  row_sound = all_each (sound_in b rows) idle refl rows (and_right (numbers_sound && distinct rows) (all (sound_in b rows) rows) sound)

  module _ (j : ℕ) where
    abbrev row : Row
    row = row_of rows j

    abbrev before : ℕ
    before = ahead rows row.turn.0

    idle_sound : row.turn.0 ≡ 0 → row ≡ idle
    idle_sound none =
        let tests : holds (idle_conditions row) ≡ true = rw (ap (ltb 0) none) at (row_sound j) in
        let declared : row.declared ≡ 0 = eqb-true row.declared 0 (nth (idle_conditions row) tests 0) in
        let held : row.held ≡ 0 = eqb-true row.held 0 (nth (idle_conditions row) tests 1) in
        let asked : row.asked ≡ 0 = eqb-true row.asked 0 (nth (idle_conditions row) tests 2) in
        let since : row.since ≡ 0 = eqb-true row.since 0 (nth (idle_conditions row) tests 3) in
        λ i. record { turn = record { 0 = none i }; declared = declared i; held = held i; asked = asked i; since = since i }

    -- its conditions, place by place
    live_sound :
        0 < row.turn.0 → (i : ℕ) → get_or (beside_by b.tokens b.time row before (blocked rows row.turn.0)) i true ≡ true
    live_sound alive =
        let tests = beside_by b.tokens b.time row before (blocked rows row.turn.0) in
        nth tests
        (and_right (leb row.turn.0 b.last.0 && below row.declared b.resources) (holds tests)
        (sym (row_beside b.tokens b.resources b.time b.last.0 row before (blocked rows row.turn.0) (lt-ltb 0 row.turn.0 alive))
        ∙ row_sound j))

    asked_by_token_lem : 0 < row.turn.0 → b.tokens ≤ before → row.asked ≡ 0
    asked_by_token_lem alive none =
        le-zero
        (ltb-false 0 row.asked
        (denied (ltb 0 row.asked) (ltb before b.tokens) (live_sound alive 5) (le-ltb before b.tokens none)))

    since_sound : 0 < row.turn.0 → before < b.tokens → row.asked ≡ 0 → row.since ≡ 0
    since_sound alive token rests =
        eqb-true row.since 0
        (implied (not (not (ltb before b.tokens) || ltb 0 row.asked)) (eqb row.since 0) (live_sound alive 9)
        (λ i. not (not (lt-ltb before b.tokens token i) || ltb 0 (rests i))))

  pub sound_steady : Steady b.tokens rows
  sound_steady =
      record {
        apart = sound_distinct;
        each = λ j. record { zero = idle_sound j; quiet = asked_by_token_lem j; rests = since_sound j };
      }
