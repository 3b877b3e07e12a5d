-- What accepted events do and never do, by name.
use Rattle.std.specs.Prelude.{◌+◌, ◌<◌, ◌≡◌}
use Rattle.kept.specs.Prelude.{Ask, Bool, InTheWay, Open, Release, Row, Table, Tick, acceptance_tells, accepted, and-false, answer, ap, arith, asked_row, blocked, case, cases, cond, false, fine, get_or-set_same, idle, in_way_at, in_way, inside, inside_reads, inside_trans, jobs, length, live_within, lt-ltb, ltb-true, meets_reads, member, member_without, next, not, not-false, opened_row, refl, releasing, row_in, said, time_at, token, true, without, ℕ, ◌∙◌}
use Rattle.event.specs.declared.events.Event.{Event}
use Rattle.arbiter.specs.Answers as Answers
use Rattle.kept.specs.Words.{Accepts, Asked, Decided, grants, waits}
use Rattle.kept.specs.Accepted.{acts, answer_accepted, next_accepted, open_below, passed, was_sound}
use Rattle.kept.specs.Decisions.{asks}
use Rattle.kept.specs.Events.{accepted_kept}
use Rattle.kept.specs.Sound.Words.{SoundTable}

pub next_kept : (n : ℕ) (t : Table) (e : Event) → Accepts n t e → SoundTable (next n t e)
next_kept n t e ok = rw (next_accepted n t e ok) (accepted_kept n t e ok)

-- ---- Ask

module _ (n : ℕ) (t : Table) (j : ℕ) (tick : Tick) (s : ℕ) (ok : Accepts n t (Ask j tick s)) where
  -- what it leaves of its row
  pub asked : Asked t (time_at t tick.0) s (row_in t j) (row_in (accepted t (Ask j tick s)) j)
  asked =
      let a = acts n t (Ask j tick s) ok refl in
      rw (get_or-set_same t.rows j (asked_row t (row_in t j) (time_at t tick.0) s) idle (live_within t.rows j a.alive))
      (asks t (time_at t tick.0) s (row_in t j) a.nothing)

  -- an accepted ask is granted as a whole or waits as a whole, as Q3 decides
  pub ask_whole :
      Decided t.rows s (row_in t j) (row_in (next n t (Ask j tick s)) j).held (row_in (next n t (Ask j tick s)) j).asked
  ask_whole = rw (next_accepted n t (Ask j tick s) ok) asked.decided

  -- a resource that an older live request still declares is not handed out, free or not: the ask waits, and nothing more is held
  pub older_goes_first :
      InTheWay t.rows (row_in t j).turn.0 s →
      (answer n t (Ask j tick s) ≡ fine Answers.says_wait) × ((row_in (next n t (Ask j tick s)) j).held ≡ (row_in t j).held)
  older_goes_first w =
      let way = in_way_at t.rows (row_in t j).turn.0 s w in
      (rw (answer_accepted n t (Ask j tick s) ok, lt-ltb 0 (in_way t.rows (row_in t j).turn.0 s) way) refl, held ask_whole)
    where
      held : {h a : ℕ} → Decided t.rows s (row_in t j) h a → h ≡ (row_in t j).held
      held (grants way _ _) = absurd (omega (arith, in_way_at t.rows (row_in t j).turn.0 s w))
      held (waits _ h _) = h

-- ---- Since when a wait counts

-- an open that says "wait" waits from the true time after its own tick
pub open_waits_from_now :
    (n : ℕ) (t : Table) (j : ℕ) (tick : Tick) (s : ℕ) → length t.rows ≡ jobs → answer n t (Open j tick s) ≡ fine Answers.says_wait →
    (row_in (next n t (Open j tick s)) j).since ≡ (next n t (Open j tick s)).time
unfolding answer
open_waits_from_now n t j tick s full e =
    let said = acceptance_tells {B = ℕ} (cases n t (Open j tick s)) (said t (Open j tick s)) Answers.says_wait e in
    let within = open_below n t j tick s said.0 in
    rw (next_accepted n t (Open j tick s) said.0, get_or-set_same t.rows j (opened_row t (time_at t tick.0) s) idle (omega arith))
    (rw (go (token t.tokens t.rows (t.last.0 + 1)) said.1))
  where
    go : (b : Bool) → cond b Answers.says_token Answers.says_wait ≡ Answers.says_wait → b ≡ false
    go true f = let z : ◌≡◌ {A = ℕ} 0 1 = cc in absurd (omega arith)
    go false f = refl

-- so does an ask
pub ask_waits_from_now :
    (n : ℕ) (t : Table) (j : ℕ) (tick : Tick) (s : ℕ) → answer n t (Ask j tick s) ≡ fine Answers.says_wait →
    (row_in (next n t (Ask j tick s)) j).since ≡ (next n t (Ask j tick s)).time
unfolding answer
ask_waits_from_now n t j tick s e =
    let said = acceptance_tells {B = ℕ} (cases n t (Ask j tick s)) (said t (Ask j tick s)) Answers.says_wait e in
    rw (next_accepted n t (Ask j tick s) said.0)
    ((asked n t j tick s said.0).waits_now (go (blocked t.rows (row_in t j).turn.0 s) refl said.1))
  where
    go :
        (b : Bool) → blocked t.rows (row_in t j).turn.0 s ≡ b → cond b Answers.says_wait Answers.says_granted ≡ Answers.says_wait →
        0 < in_way t.rows (row_in t j).turn.0 s
    go true f e = ltb-true 0 (in_way t.rows (row_in t j).turn.0 s) f
    go false f e = let z : ◌≡◌ {A = ℕ} 0 1 = cc in absurd (omega arith)

-- ---- Release

module _ (n : ℕ) (t : Table) (j : ℕ) (tick : Tick) (s : ℕ) (ok : Accepts n t (Release j tick s)) where
  released : row_in (next n t (Release j tick s)) j ≡ releasing (row_in t j) s
  released =
      ap (λ (u : Table). row_in u j) (next_accepted n t (Release j tick s) ok)
      ∙ get_or-set_same t.rows j (releasing (row_in t j) s) idle (live_within t.rows j (acts n t (Release j tick s) ok refl).alive)

  -- a release leaves the declared set whole
  pub release_keeps_declared : (row_in (next n t (Release j tick s)) j).declared ≡ (row_in t j).declared
  release_keeps_declared = ap (λ (r : Row). r.declared) released

  -- and any part of what was released may be asked for again: 13 and 14 do not apply
  pub release_asks_again :
      (m : ℕ) (later : Tick) (x : ℕ) → inside x s ≡ true →
      (case 13 (cases m (next n t (Release j tick s)) (Ask j later x)) ≡ false)
      × (case 14 (cases m (next n t (Release j tick s)) (Ask j later x)) ≡ false)
  unfolding case
  release_asks_again m later x part =
      let r = row_in t j in
      let e = Release j tick s in
      let was-held = not-false (inside s r.held) (passed n t e ok 15) in
      let declared = (((was_sound n t e ok).rows j).lives (acts n t (Release j tick s) ok refl).alive).held_declared_lem in
      rw released (
        ap not (inside_trans x s r.declared part (inside_trans s r.held r.declared was-held declared)),
        (meets_reads x (without r.held s)).fails.1
            (λ a m. rw (member_without r.held s a, (inside_reads x s).holds.0 part a m) (and-false (member r.held a))),
      )
