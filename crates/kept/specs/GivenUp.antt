-- What a give up leaves, and what is left to a request that has given up all, by name.
use Rattle.std.specs.Prelude.{◌<◌, ◌≡◌, ◌≤◌}
use Rattle.kept.specs.Prelude.{Ask, GiveUp, Open, Release, Row, Table, Tick, ◌∙◌, acceptance_tells, accepted, ahead, and-false, ap, arith, case, claims, clock_cases, earlier, eqb-false, false, first_back, first_is, forward, get_or-set_same, giving_up, idle, inside_le, jobs, le-ltb, live, live_within, lt-leb, lt-ltb, ltb-true, meets_comm, meets_empty, next, none, not, not-false, past, refl, row_settled, row_in, rows_with, sound, swept_row, sym, time_at, true, true≢false, ℕ}
use Rattle.event.specs.declared.events.Event.{Event}
use Rattle.kept.specs.Words.{Accepts, Acts, OnlyCompletes}
use Rattle.kept.specs.Accepted.{acts, next_accepted, passed, was_sound}
use Rattle.kept.specs.Changes.{clearer}
use Rattle.kept.specs.Decisions.{nothing_swept}
use Rattle.kept.specs.Sound.Words.{LiveRow}
use Rattle.kept.specs.Sound.Tests.{table_sound}

-- an accepted give up takes the members out of the declared and the held set of its row, and changes nothing else of it; its
-- request may act again: it is live, has its token and asks nothing
pub give_up_leaves :
    (n : ℕ) (t : Table) (j : ℕ) (tick : Tick) (s : ℕ) → Accepts n t (GiveUp j tick s) →
    (row_in (next n t (GiveUp j tick s)) j ≡ giving_up (row_in t j) s) × Acts (next n t (GiveUp j tick s)) j
give_up_leaves n t j tick s ok =
    rw (next_accepted n t e ok) (
      left,
      record {
        below = a.below;
        alive = rw left a.alive;
        has = rw left (omega (arith, (clearer n t e ok r.turn.0 p.given).less_ahead, a.has));
        nothing = rw left a.nothing;
      },
    )
  where
    e : Event
    e = GiveUp j tick s

    r : Row
    r = row_in t j

    a : Acts t j
    a = acts n t e ok refl

    p : LiveRow t r
    p = ((was_sound n t e ok).rows j).lives a.alive

    left : row_in (accepted t e) j ≡ giving_up r s
    left =
        row_settled t.tokens (rows_with t e) j
        ∙ ap (swept_row t.tokens (rows_with t e)) (get_or-set_same t.rows j (giving_up r s) idle (live_within t.rows j a.alive))
        ∙ nothing_swept t.tokens (rows_with t e) (giving_up r s) a.nothing (p.rests a.has a.nothing)

-- a request that declares nothing is in nobody's way
pub emptied_in_nobodys_way : (r : Row) → r.declared ≡ 0 → (m x : ℕ) → claims m x r ≡ false
emptied_in_nobodys_way r nothing m x = rw (nothing, meets_comm 0 x, meets_empty x) (and-false (earlier m r))

-- to a live request that declares nothing only its completion is left
pub emptied_only_completes :
    (t : Table) (j : ℕ) → j < jobs → sound t ≡ true → live (row_in t j) ≡ true → (row_in t j).declared ≡ 0 → OnlyCompletes t j
unfolding case forward
emptied_only_completes t j below is-sound lives nothing =
    let r = row_in t j in
    let p = ((table_sound t is-sound).rows j).lives (ltb-true 0 r.turn.0 lives) in
    let asked = inside_le r.asked r.declared p.asked_declared_lem in
    let held = inside_le r.held r.declared p.held_declared_lem in
    let lacks : ¬ (t.tokens ≤ ahead t.rows r.turn.0) = λ late. omega (arith, p.declares late) in
    let has = lt-ltb (ahead t.rows r.turn.0) t.tokens (omega arith) in
    record {
      open_again = λ n tick s ok. true≢false (sym lives ∙ passed n t (Open j tick s) ok 7);
      ask = λ n tick s ok.
          let off = passed n t (Ask j tick s) ok in
          omega (arith, eqb-false s 0 (off 11), inside_le s r.declared (not-false _ (off 13)));
      release = λ n tick s ok.
          let off = passed n t (Release j tick s) ok in
          omega (arith, eqb-false s 0 (off 11), inside_le s r.held (not-false _ (off 15)));
      give_up = λ n tick s ok.
          let off = passed n t (GiveUp j tick s) ok in
          omega (arith, eqb-false s 0 (off 11), inside_le s r.declared (not-false _ (off 13)));
      complete = λ n tick time long taken.
          let cs = clock_cases t.time tick.0 in
          let clock = (acceptance_tells {B = ℕ} cs (time_at t tick.0) time taken).0 in
          let front = first_is (past (le-ltb n jobs long) (past (ap not is-sound) (past (lt-leb jobs j below) none))) in
          let back = first_is (past (ap not lives) (past (ap not has) (past (le-ltb 0 r.asked (omega arith)) none))) in
          first_back _ _ refl (sym front) ∙ first_back cs _ refl clock ∙ sym back;
    }
