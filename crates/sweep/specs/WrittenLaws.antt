-- What is written in place of a row whose request acts leaves the rows as the sweep needs them.
use Rattle.std.specs.Prelude.{◌&&◌, ◌+◌, ◌<◌, ◌≡◌, ◌≢◌}
use Rattle.sweep.specs.Prelude.{Bool, Distinct, List, Row, ◌∙◌, ahead, ahead_set, ap, arith, at_set, bit, distinct_set, earlier, false, get_or-set_same, idle, length, length-set, live, live_within, lt-ltb, ltb, ltb-false, ltb-true, not, not_earlier, refl, row_of, set, subst, sym, true, turn_earlier, waiting, waiting_reads, ℕ}
use Rattle.sweep.specs.Steady.{Steady}
use Rattle.sweep.specs.Sweeping.{Acts, Onward, ended, stayed}
use Rattle.sweep.specs.WalkingLaws.{ahead_rises}
use Rattle.sweep.specs.Written.{Becomes, MovedUp, Written, as_many, gone_behind, one_fewer}

module _ {T : ℕ} {rows : List Row} {k : ℕ} (steady : Steady T rows) (acts : Acts T rows k) where
  -- job k has a row
  within : k < length rows
  within = live_within rows k acts.alive

  -- ---- Row by row

  not_waiting : waiting T rows (row_of rows k) ≡ false
  not_waiting = (waiting_reads T rows (row_of rows k) acts.alive).fails.1 (acts.has_token, acts.asks_nothing)

  own_becomes : {x : Row} → Onward (row_of rows k) x → Becomes T rows (row_of rows k) x
  own_becomes (ended e) =
      subst (Becomes T rows (row_of rows k)) (sym e)
      (record {
        waits = not_waiting;
        turn = λ alive. absurd (omega (arith, alive));
        steady = record { zero = λ _. refl; quiet = λ _ _. refl; rests = λ _ _ _. refl };
      })
  own_becomes {x} (stayed turn asked since) =
      let alive : 0 < x.turn.0 = omega (arith, acts.alive) in
      let token : ahead rows x.turn.0 < T = omega (arith, acts.has_token, ap (ahead rows) turn) in
      record {
        waits = not_waiting ∙ sym ((waiting_reads T rows x alive).fails.1 (token, asked));
        turn = λ _. turn;
        steady =
            record { zero = λ none. absurd (omega (arith, alive)); quiet = λ _ _. asked; rests = λ _ _ _. since };
      }

  becomes : {x : Row} → Onward (row_of rows k) x → (j : ℕ) → Becomes T rows (row_of rows j) (row_of (set rows k x) j)
  becomes {x} onward =
      at_set (λ j r. Becomes T rows (row_of rows j) r) rows k x within (own_becomes onward)
      (λ j _. record { waits = refl; turn = λ _. refl; steady = steady.each j })

  unshared : {x : Row} → Onward (row_of rows k) x → Distinct (set rows k x)
  unshared {x} onward =
      distinct_set rows k x within steady.apart
      (λ j differs alive same. differs (steady.apart j k (omega arith) (same ∙ (own_becomes onward).turn alive)))

  -- ---- How many stand before a request

  module _ (x : Row) (j : ℕ) (alive : 0 < (row_of (set rows k x) j).turn.0) where
    abbrev turn : ℕ
    turn = (row_of (set rows k x) j).turn.0

    abbrev Moved : Bool → Type 0
    Moved = MovedUp T (ahead rows turn) (ahead (set rows k x) turn)

    change : ahead (set rows k x) turn + bit (earlier turn (row_of rows k)) ≡ ahead rows turn + bit (earlier turn x)
    change = ahead_set rows k x within turn

    -- when a request has ended: whoever stood behind it has one fewer before it, and whoever stood before it has a token
    moved_idle : x ≡ idle → Moved true
    moved_idle e = go (ltb (row_of rows k).turn.0 turn) refl
      where
        had : turn ≡ (row_of rows j).turn.0
        had = (becomes (ended e) j).turn alive

        differs : j ≢ k
        differs same =
            omega (arith, alive, ap (λ (i : ℕ). (row_of (set rows k x) i).turn.0) same, ap (λ (r : Row). r.turn.0) (get_or-set_same rows k x idle within ∙ e))

        go : (b : Bool) → ltb (row_of rows k).turn.0 turn ≡ b → Moved true
        go true lower =
            let left = turn_earlier turn (row_of rows k) acts.alive (ltb-true (row_of rows k).turn.0 turn lower) in
            one_fewer (omega (arith, change, ap (λ (r : Row). bit (earlier turn r)) e, ap bit left))
        go false h =
            let higher = ltb-false (row_of rows k).turn.0 turn h in
            let stays = not_earlier turn (row_of rows k) higher in
            let same : ahead rows turn ≡ ahead (set rows k x) turn =
            omega (arith, change, ap (λ (r : Row). bit (earlier turn r)) e, ap bit stays) in
            let other : (row_of rows j).turn.0 ≢ (row_of rows k).turn.0 = λ e. differs (steady.apart j k (omega (arith, had)) e) in
            let more = ahead_rises rows j (row_of rows k).turn.0 (omega (arith, had)) (omega (arith, had)) in
            gone_behind same (omega (arith, acts.has_token, ap (ahead rows) had))

    moved_up : Onward (row_of rows k) x → Moved (not (live x))
    moved_up (ended e) = subst Moved (sym (ap (λ (r : Row). not (live r)) e)) (moved_idle e)
    moved_up (stayed same _ _) =
        subst Moved (sym (ap not (lt-ltb 0 x.turn.0 (omega (arith, acts.alive)))))
        (as_many (omega (arith, change, ap (λ (n : ℕ). bit (ltb 0 n && ltb n turn)) same)))

  pub written : {x : Row} → Onward (row_of rows k) x → Written (not (live x)) T rows (set rows k x)
  written {x} onward =
      record {
        apart = unshared onward;
        long = length-set rows k x;
        each = becomes onward;
        moved = λ j alive. moved_up x j alive onward;
      }
