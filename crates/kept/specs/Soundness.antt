-- Soundness is kept: events leave a sound table sound, a fresh table is sound, and none that is sound is refused as 3.
use Rattle.std.specs.Prelude.{◌++◌, ◌<◌, ◌^◌, ◌∷◌, ◌≡◌}
use Rattle.kept.specs.Prelude.{Bool, Call, Case, List, NoSuchJob, NotLive, Refusal, Row, ShortList, Table, UnsoundTable, [], about, acceptance_tells, accepted, answer, ap, applies, arith, refusals_of, calling, case, cases, cases_by, clear, clock_refusals, cond, course, false, fine, first, first_named, fresh_table, holds, idle, job_of, jobs, keep_unless, late, leaves, length, list_cases, ltb, next, no_table, not, not-false, outcome, overdue, ranges, refl, refusal_tells, refused, refusing, replicate, report, reported, row_in, row_of, run, said, set_of, sound, start_answer, start_cases, start_table, suc, sym, tick_of, true, true≢false, zero, ℕ, ◌∙◌}
use Rattle.event.specs.declared.events.Event.{Event}
use Rattle.arbiter.specs.Answers as Answers
use Rattle.kept.specs.Words.{Accepts, NeverUnsound}
use Rattle.kept.specs.Accepted.{leaves_new}
use Rattle.kept.specs.Events.{accepted_kept}
use Rattle.kept.specs.Sound.Tests.{idle_sound, ranges_in, sound_table}

-- what a call leaves has a property that the old value has, and the new one if no case applies
left_with :
    {A : Type 0} (P : A → Type 0) (cs : List Case) (old new : A) → P old → (first cs ≡ 0 → P new) → P (leaves cs old new)
unfolding leaves
left_with {A} P cs old new p q = go (first cs) q
  where
    go : (k : ℕ) → (k ≡ 0 → P new) → P (keep_unless k old new)
    go zero q = q refl
    go (suc k) q = p

-- an accepted event gives a sound table
pub accepted_sound : (n : ℕ) (t : Table) (e : Event) → Accepts n t e → sound (accepted t e) ≡ true
accepted_sound n t e ok = sound_table (accepted t e) (accepted_kept n t e ok)

-- any event, refused or not, leaves a sound table sound
pub next_sound : (n : ℕ) (t : Table) (e : Event) → sound t ≡ true → sound (next n t e) ≡ true
unfolding next
next_sound n t e p = left_with (λ u. sound u ≡ true) (cases n t e) t (accepted t e) p (accepted_sound n t e)

-- so does any sequence of events
pub events_sound : (t : Table) (es : List Event) → sound t ≡ true → sound (run t es) ≡ true
unfolding course
events_sound t [] p = p
events_sound t (e ∷ es) p = events_sound (next jobs t e) es (next_sound jobs t e p)

-- where nobody has a request every row is idle
pub idle_rows : (n k : ℕ) → row_of (replicate n idle) k ≡ idle
idle_rows zero k = refl
idle_rows (suc n) zero = refl
idle_rows (suc n) (suc k) = idle_rows n k

-- a fresh table is sound
pub fresh_sound :
    (T R tick limit : ℕ) → holds (ranges T R limit) ≡ true → tick < 2 ^ 32 → sound (fresh_table T R tick limit) ≡ true
fresh_sound T R tick limit e h =
    sound_table (fresh_table T R tick limit)
    (record {
      ranges = ranges_in T R limit e;
      time = omega arith;
      last = omega arith;
      distinct = λ j k alive same. absurd (omega (arith, ap (λ (r : Row). r.turn.0) (idle_rows jobs j)));
      rows = λ k. rw (idle_rows jobs k) (idle_sound (fresh_table T R tick limit));
    })

-- an accepted start has numbers in range, and gives a fresh table
module _ (T R limit : ℕ) (started : start_answer T R limit ≡ fine Answers.says_done) where
  unrefused : first (start_cases T R limit) ≡ 0
  unfolding start_answer
  unrefused = (acceptance_tells {B = ℕ} (start_cases T R limit) Answers.says_done Answers.says_done started).0

  pub start_ranges : holds (ranges T R limit) ≡ true
  unfolding case
  start_ranges = not-false (holds (ranges T R limit)) (clear 1 (start_cases T R limit) refl unrefused)

  pub start_fresh : (tick : ℕ) → start_table T R tick limit ≡ fresh_table T R tick limit
  unfolding start_table
  start_fresh tick = leaves_new (start_cases T R limit) no_table (fresh_table T R tick limit) unrefused

-- ---- Refusal 3

-- what is refused as 3 was unsound
refused_unsound :
    {A : Type 0} (a : A) (w : Bool) (n : ℕ) (t : Table) (c : Call) (rs : List Refusal) →
    outcome (cond w (list_cases n) [] ++ cases_by (applies t c) rs) a ≡ refused 3 → not (sound t) ≡ true
unfolding first
refused_unsound {A} a w n t c rs e = go w (ltb n jobs) (refusal_tells {B = A} _ a 3 e).0
  where
    rest : first (cases_by (applies t c) rs) ≡ 3 → not (sound t) ≡ true
    rest = first_named (applies t c) rs UnsoundTable

    go :
        (w b : Bool) → first (cond w (refusing ShortList b ∷ []) [] ++ cases_by (applies t c) rs) ≡ 3 → not (sound t) ≡ true
    go true true q = absurd (omega (arith, q))
    go true false q = rest q
    go false b q = rest q

-- none on a sound table is
pub never_unsound : (t : Table) → sound t ≡ true → NeverUnsound t
unfolding answer report overdue
never_unsound t p =
    record {
      event = λ n e f. true≢false (sym (refused_unsound (said t e) (about e).wakes n t (calling (job_of e) (tick_of e) (set_of e)) (refusals_of (about e)) f) ∙ ap not p);
      report = λ j f.
          true≢false
          (sym (refused_unsound (reported t (row_in t j)) false 0 t (calling j 0 0) (UnsoundTable ∷ NoSuchJob ∷ NotLive ∷ []) f) ∙ ap not p);
      overdue = λ n tick f.
          true≢false
          (sym (refused_unsound (length (late t tick)) true n t (calling 0 tick 0) (UnsoundTable ∷ clock_refusals) f) ∙ ap not p);
    }
