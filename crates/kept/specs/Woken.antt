-- Whom an accepted event wakes, and what becomes of a wait.
use Rattle.std.specs.Prelude.{◌&&◌, ◌<◌, ◌∷◌, ◌≡◌, ◌≤◌, ◌⊎◌}
use Rattle.kept.specs.Prelude.{Bool, Each, List, List-as-Memᴰ, List·Memᴰ·cases-cons, List·Memᴰ·not-nil, Release, Row, Table, Tick, [], about, accepted, and-not_self, and_right, ap, arith, cond, dec_lt, each_head, each_tail, eqb, eqb-false, false, false≢true, get_or, get_or-set_other, has_job, idle, inl, inr, job_of, keep, line, names, next, not, not-true, refl, row_settled, row_after, row_in, row_of, rows_with, set, settled, subst, swept_row, sym, tick_of, time_at, true, true≢false, waiting, waiting_reads, wakes, woken, ℕ, ◌∙◌}
use Rattle.event.specs.declared.events.Event.{Event}
use Rattle.kept.specs.Words.{Accepts, Decided, Swept, waits, Alike, Fate, same, acted, stayed}
use Rattle.kept.specs.Accepted.{named_rests, next_accepted, next_tokens, was_sound}
use Rattle.kept.specs.Changes.{alike_quiet}
use Rattle.kept.specs.Decisions.{sweeps}
use Rattle.kept.specs.Named.{next_kept}
use Rattle.kept.specs.Rows.{alike_settled, decided_alike, waiting_alike}
use Rattle.kept.specs.Sound.Words.{SoundTable}
use Rattle.kept.specs.Sound.Facts.{not_idle, turns_given}

-- ---- What becomes of a row

module _ (n : ℕ) (t : Table) (e : Event) (ok : Accepts n t e) (k : ℕ) where
  -- an event writes no row but that of the job which it names
  unwritten : names k e ≡ false → row_of (rows_with t e) k ≡ row_in t k
  unwritten = go (has_job (about e).role)
    where
      row : Row
      row = row_after t (time_at t (tick_of e)) e (row_in t (job_of e))

      go :
          (b : Bool) → (b && eqb (job_of e) k) ≡ false →
          row_of (cond b (set t.rows (job_of e) row) t.rows) k ≡ row_in t k
      go true q = get_or-set_other t.rows (job_of e) k row idle (λ same. eqb-false (job_of e) k q (sym same))
      go false q = refl

  pub fate : Fate t e k
  fate = go (names k e) refl (about e).wakes refl
    where
      given : (row_in t k).turn.0 ≤ t.last.0
      given = turns_given (was_sound n t e ok) k

      go : (b : Bool) → names k e ≡ b → (w : Bool) → (about e).wakes ≡ w → Fate t e k
      go true q w loud = acted q (named_rests n t e ok k q)
      go false q false quiet =
          same (ap (λ (w : Bool). row_of (cond w (settled t.tokens (rows_with t e)) (rows_with t e)) k) quiet ∙ unwritten q)
          (alike_quiet n t e ok (row_in t k).turn.0 given quiet)
      go false q true loud =
          let after : (accepted t e).rows ≡ settled t.tokens (rows_with t e) =
          ap (λ (w : Bool). cond w (settled t.tokens (rows_with t e)) (rows_with t e)) loud in
          stayed loud (rows_with t e)
          (ap (λ (rows : List Row). row_of rows k) after
          ∙ row_settled t.tokens (rows_with t e) k
          ∙ ap (swept_row t.tokens (rows_with t e)) (unwritten q))
          (subst (λ (rows : List Row). Alike (rows_with t e) rows (row_in t k).turn.0) (sym after)
          (alike_settled t.tokens (rows_with t e) (row_in t k).turn.0))

-- ---- Who is woken

-- what a filter keeps passes the test; where nothing passes it keeps nothing
keep_passes : (f : ℕ → Bool) (js : List ℕ) {k : ℕ} → List-as-Memᴰ k (keep f js) → f k ≡ true
unfolding keep
keep_passes f [] m = absurd (List·Memᴰ·not-nil m)
keep_passes f (j ∷ js) {k} m = go (f j) refl (keep_passes f js) m
  where
    cons : f j ≡ true → (List-as-Memᴰ k (keep f js) → f k ≡ true) → (k ≡ j) ⊎ List-as-Memᴰ k (keep f js) → f k ≡ true
    cons e more (inl p) = rw p e
    cons e more (inr m) = more m

    go :
        (b : Bool) → f j ≡ b → (List-as-Memᴰ k (keep f js) → f k ≡ true) → List-as-Memᴰ k (cond b (j ∷ keep f js) (keep f js)) →
        f k ≡ true
    go true e more m = cons e more (List·Memᴰ·cases-cons m)
    go false e more m = more m

pub keep_none : (f : ℕ → Bool) (js : List ℕ) → Each (λ j. f j ≡ false) js → keep f js ≡ []
unfolding keep
keep_none f [] none = refl
keep_none f (j ∷ js) none =
    rw (each_head (λ k. f k ≡ false) j js none) (keep_none f js (each_tail (λ k. f k ≡ false) j js none))

-- only an event that may wake others wakes anybody
pub quiet_wakes_nobody :
    (n : ℕ) (t : Table) (e : Event) → Accepts n t e → (about e).wakes ≡ false →
    woken t.tokens t.rows (next n t e).rows ≡ []
unfolding woken
quiet_wakes_nobody n t e ok other =
    let jobs = line (accepted t e).rows in
    rw (next_accepted n t e ok) (keep_none _ jobs (λ i inside. go (get_or jobs i 0) (fate n t e ok (get_or jobs i 0))))
  where
    go :
        (k : ℕ) → Fate t e k →
        (waiting t.tokens t.rows (row_in t k) && not (waiting t.tokens (accepted t e).rows (row_in (accepted t e) k)))
        ≡ false
    go k (same row alike) =
        rw (row, ← waiting_alike t.tokens (row_in t k) alike) (and-not_self (waiting t.tokens t.rows (row_in t k)))
    go k (acted _ rests) = rw rests
    go k (stayed c _ _ _) = absurd (false≢true (sym other ∙ c))

-- so a release wakes nobody
pub release_wakes_nobody :
    (n : ℕ) (t : Table) (j : ℕ) (tick : Tick) (s : ℕ) → Accepts n t (Release j tick s) →
    woken t.tokens t.rows (next n t (Release j tick s)).rows ≡ []
release_wakes_nobody n t j tick s ok = quiet_wakes_nobody n t (Release j tick s) ok refl

-- the list of the woken is what it says, for every event: those who waited before and do not wait after
pub wakes_woken :
    (n : ℕ) (t : Table) (e : Event) → Accepts n t e → wakes t e ≡ woken t.tokens t.rows (next n t e).rows
wakes_woken n t e ok = go (about e).wakes refl
  where
    go :
        (w : Bool) → (about e).wakes ≡ w →
        cond w (woken t.tokens t.rows (accepted t e).rows) [] ≡ woken t.tokens t.rows (next n t e).rows
    go true loud = rw (next_accepted n t e ok)
    go false quiet = sym (quiet_wakes_nobody n t e ok quiet)

-- ---- Waiting times

-- in a sound table whoever does not wait has no waiting time
rest_clears : (t : Table) → SoundTable t → (k : ℕ) → waiting t.tokens t.rows (row_in t k) ≡ false → (row_in t k).since ≡ 0
rest_clears t p k rests = go (dec_lt 0 (row_in t k).turn.0)
  where
    go : Dec (0 < (row_in t k).turn.0) → (row_in t k).since ≡ 0
    go (yes alive) =
        let r = (waiting_reads t.tokens t.rows (row_in t k) alive).fails.0 rests in
        ((p.rows k).lives alive).rests r.0 r.1
    go (no idles) = ap (λ (r : Row). r.since) ((p.rows k).idles (omega arith))

module _ (n : ℕ) (t : Table) (e : Event) (ok : Accepts n t e) (k : ℕ) where
  -- waking clears the waiting time
  pub waking_clears : List-as-Memᴰ k (wakes t e) → (row_in (next n t e) k).since ≡ 0
  unfolding woken
  waking_clears m =
      let passes = keep_passes _ (line (next n t e).rows) (rw (wakes_woken n t e ok) at m) in
      let after = waiting t.tokens (next n t e).rows (row_in (next n t e) k) in
      let rests = not-true after (and_right (waiting t.tokens t.rows (row_in t k)) (not after) passes) in
      rest_clears (next n t e) (next_kept n t e ok) k (rw (next_tokens n t e ok) rests)

  -- what a sweep says of the row of one who stayed
  swept_so :
      (rows : List Row) → row_in (accepted t e) k ≡ swept_row t.tokens rows (row_in t k) →
      Swept t.tokens rows (row_in t k) (row_in (accepted t e) k)
  swept_so rows row = subst (Swept t.tokens rows (row_in t k)) (sym row) (sweeps t.tokens rows (row_in t k))

  -- a wait that goes on keeps its time
  pub wait_goes_on :
      waiting t.tokens t.rows (row_in t k) ≡ true →
      waiting t.tokens (next n t e).rows (row_in (next n t e) k) ≡ true → (row_in (next n t e) k).since ≡ (row_in t k).since
  wait_goes_on = rw (next_accepted n t e ok) (go (fate n t e ok k))
    where
      go :
          Fate t e k → waiting t.tokens t.rows (row_in t k) ≡ true →
          waiting t.tokens (accepted t e).rows (row_in (accepted t e) k) ≡ true →
          (row_in (accepted t e) k).since ≡ (row_in t k).since
      go (same row _) before after = ap (λ (r : Row). r.since) row
      go (acted _ rests) before after = absurd (true≢false (sym before ∙ rests))
      go (stayed _ rows row alike) before after =
          let w = swept_so rows row in
          w.since (waiting_alike t.tokens (row_in (accepted t e) k) (rw w.turn alike) ∙ after)

  -- whatever happens, an asked set is granted as a whole or stays asked as a whole, as Q3 decides on the rows after
  pub asked_whole :
      0 < (row_in t k).asked →
      Decided (next n t e).rows (row_in t k).asked (row_in t k) (row_in (next n t e) k).held (row_in (next n t e) k).asked
  asked_whole some = rw (next_accepted n t e ok) (go (fate n t e ok k))
    where
      alive : 0 < (row_in t k).turn.0
      alive = not_idle (was_sound n t e ok) k (λ z. omega (arith, ap (λ (r : Row). r.asked) z))

      go :
          Fate t e k →
          Decided (accepted t e).rows (row_in t k).asked (row_in t k) (row_in (accepted t e) k).held (row_in (accepted t e) k).asked
      go (same row alike) =
          let way = (((was_sound n t e ok).rows k).lives alive).asked_blocked_lem some in
          rw row (waits (omega (arith, alike.same_way (row_in t k).asked)) refl refl)
      go (acted _ rests) = absurd (omega (arith, ((waiting_reads t.tokens t.rows (row_in t k) alive).fails.0 rests).1))
      go (stayed _ rows row alike) = decided_alike alike (swept_so rows row).decided
