-- Whole histories: which events are accepted, what they leave, and whom they list as woken.
use Rattle.std.specs.Prelude.{◌++◌, ◌≡◌, ◌≤◌}
use Rattle.promises.specs.Prelude.{Bool, Case, List, Table, [], about, accepted, answer, ap, applies, refusals_of, calling, cases, cases_by, cond, false, false≢true, first, job_of, jobs, keep_unless, le-ltb, leaves, length, list_cases, listed, next, outcome, over, refl, said, set_of, suc, tick_of, true, unless, wakes, zero, ℕ, ◌∙◌}
use Rattle.event.specs.declared.events.Event.{Event}
use Rattle.kept.specs.Words.{Accepts}
use Rattle.promises.specs.History.Words.{is_fine, lists, taken}

-- ---- What an event leaves, accepted or not

module _ (t : Table) (e : Event) where
  -- an event is accepted, and the next table is that of an accepted event; or it is refused, and the table stays
  pub next_either : (P : Bool → Table → Type 0) → (Accepts jobs t e → P true (accepted t e)) → P false t → P (taken t e) (next jobs t e)
  unfolding answer outcome next leaves
  next_either P takes refuses = go (first (cases jobs t e)) takes
    where
      go : (k : ℕ) → (k ≡ 0 → P true (accepted t e)) → P (is_fine (unless k (said t e))) (keep_unless k t (accepted t e))
      go zero takes = takes refl
      go (suc k) takes = refuses

  -- an event is accepted exactly if no case refuses it
  pub accepts : taken t e ≡ true → Accepts jobs t e
  unfolding answer outcome
  accepts = go (first (cases jobs t e))
    where
      go : (k : ℕ) → is_fine (unless k (said t e)) ≡ true → k ≡ 0
      go zero h = refl
      go (suc k) h = absurd (false≢true h)

-- ---- What is listed is what a lent list that is long enough holds at its front

-- such a list is never too short
first_long : (n : ℕ) (t : Table) (e : Event) → jobs ≤ n → first (cases n t e) ≡ first (cases jobs t e)
unfolding first
first_long n t e h = go (about e).wakes
  where
    rest : List Case
    rest = cases_by (applies t (calling (job_of e) (tick_of e) (set_of e))) (refusals_of (about e))

    go : (w : Bool) → first (cond w (list_cases n) [] ++ rest) ≡ first (cond w (list_cases jobs) [] ++ rest)
    go true = rw (le-ltb n jobs h)
    go false = refl

pub listed_front : (t : Table) (e : Event) (out : List ℕ) → jobs ≤ length out → listed t e out ≡ over (lists t e) out
unfolding answer outcome leaves listed over
listed_front t e out h =
    ap (λ (k : ℕ). keep_unless k out (over (wakes t e) out)) (first_long (length out) t e h) ∙ go (first (cases jobs t e))
  where
    go : (k : ℕ) → keep_unless k out (over (wakes t e) out) ≡ over (cond (is_fine (unless k (said t e))) (wakes t e) []) out
    go zero = refl
    go (suc k) = refl
