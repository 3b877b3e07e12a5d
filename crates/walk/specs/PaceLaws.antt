-- Laws of the pace: what the walk's loop keeps, at the beginning, at each job, at the end.
use Rattle.std.specs.Prelude.{◌&&◌, ◌+◌, ◌<◌, ◌∷◌, ◌≡◌, ◌≤◌, None, Some}
use Rattle.walk.specs.Prelude.{Bool, Bounds, List, Pace, Row, ◌∙◌, add-one, ap, suc, below, cond, drop, drop-cons, drop_of_length-le, false, get_or, length, line, ltb, not, refl, row_of, subst, true, ℕ}
use Rattle.walk.specs.Pace.{begun, finished, follows, paced, past}
use Rattle.walk.specs.Walk.{Walking, Walks}
use Rattle.walk.specs.WalkLaws.{nowhere, walking_end, walking_fails, walking_on, walking_start}

-- p jobs were passed, and the walk goes on along what is left
pub record Pacing (b : Bounds) (rows : List Row) (job p : ℕ) (w : Pace) : Type 0 where
  pub passed : w.s.ahead ≡ p
  pub going : Walking b rows job w.s w.passed.0 w.place (drop p (line rows))

-- at the beginning the whole line is left
pub pacing_start : (b : Bounds) (rows : List Row) (job : ℕ) (w : Pace) → w ≡ begun → Pacing b rows job 0 w
pacing_start b rows job w e = rw e (record { passed = refl; going = walking_start b rows job })

-- what was chosen by a test
chosen : {A : Type 0} (t : Bool) (a v : A) → cond t (Some a) None ≡ Some v → (t ≡ true) × (a ≡ v)
chosen true a v e = (refl, cc)
chosen false a v e = absurd cc

none_chosen : {A : Type 0} (t : Bool) (a : A) → cond t (Some a) None ≡ None → t ≡ false
none_chosen true a e = absurd cc
none_chosen false a e = refl

-- at each job
module _ (rows : List Row) (p : ℕ) (inside : p < length (line rows)) (k : ℕ) (here : get_or (line rows) p 0 ≡ k) {b : Bounds}
    {job : ℕ} (w : Pace) (now : Pacing b rows job p w) where
  -- what is left begins with it
  left : drop p (line rows) ≡ k ∷ drop (p + 1) (line rows)
  left = rw (add-one p) (drop-cons (line rows) p 0 inside ∙ ap (λ (j : ℕ). j ∷ drop (suc p) (line rows)) here)

  opened : Walking b rows job w.s w.passed.0 w.place (k ∷ drop (p + 1) (line rows))
  opened = subst (Walking b rows job w.s w.passed.0 w.place) left now.going

  -- where its row may come next, the walk goes on
  pub pacing_step : (v : Pace) → paced w k (row_of rows k) b job ≡ Some v → Pacing b rows job (p + 1) v
  pacing_step v e =
      let both = chosen (follows (row_of rows k) w.passed w.s b) (past w k (row_of rows k) job) v e in
      rw (← both.1)
      (record {
        passed = ap (λ (n : ℕ). n + 1) now.passed;
        going = walking_on k (drop (p + 1) (line rows)) opened both.0;
      })

  -- where it may not, nothing is found
  pub pacing_stops : paced w k (row_of rows k) b job ≡ None → Walks b rows job None
  pacing_stops e =
      nowhere b rows job
      (walking_fails k (drop (p + 1) (line rows)) opened
      (none_chosen (follows (row_of rows k) w.passed w.s b) (past w k (row_of rows k) job) e))

-- at the end the last tests decide
pub pacing_end :
    (rows : List Row) (p : ℕ) {b : Bounds} {job : ℕ} (w : Pace) → Pacing b rows job p w → length (line rows) ≤ p →
    Walks b rows job (finished w b)
pacing_end rows p {b} {job} w now past =
    walking_end (subst (Walking b rows job w.s w.passed.0 w.place) (drop_of_length-le (line rows) {i = p} past) now.going)
    (not (ltb b.last.0 w.passed.0) && below w.s.claims b.resources) refl
