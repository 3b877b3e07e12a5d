-- What is known of an accepted event: no case applies, the table was sound, and whoever acts may act.
use Rattle.std.specs.Prelude.{◌++◌, ◌<◌, ◌≡◌}
use Rattle.kept.specs.Prelude.{Bool, Case, List, Open, Refusal, Role, Table, Tick, [], about, accepted, actor, and_left, and_right, answer, applies, arith, refusals_of, calling, case, cases, cases_positive, cases_by, clear, cond, eqb, eqb-true, false, false≢true, fine, first, has_job, job_of, jobs, le-ltb, le_of_eq, le-zero, leaves, leb-false, list_cases, ltb-false, ltb-true, names, next, nobody, not, not-false, opener, outcome, positive, refl, row_in, said, set_of, sound, subst, sym, tick_of, true, waiting, waiting_reads, ℕ, ◌∙◌}
use Rattle.event.specs.declared.events.Event.{Event}
use Rattle.kept.specs.Sound.Words.{SoundTable}
use Rattle.kept.specs.Sound.Tests.{table_sound}
use Rattle.kept.specs.Words.{Accepts, Acts}

-- all numbers of an event's cases are positive
pub event_positive : (n : ℕ) (t : Table) (e : Event) → positive (cases n t e) ≡ true
event_positive n t e = go (about e).wakes
  where
    rest : positive (cases_by (applies t (calling (job_of e) (tick_of e) (set_of e))) (refusals_of (about e))) ≡ true
    rest = cases_positive (applies t (calling (job_of e) (tick_of e) (set_of e))) (refusals_of (about e))

    go :
        (b : Bool) →
        positive (cond b (list_cases n) [] ++ cases_by (applies t (calling (job_of e) (tick_of e) (set_of e))) (refusals_of (about e))) ≡ true
    go true = rest
    go false = rest

-- of an accepted event no case applies
pub passed : (n : ℕ) (t : Table) (e : Event) → Accepts n t e → (k : ℕ) → case k (cases n t e) ≡ false
passed n t e acc k = clear k (cases n t e) (event_positive n t e) acc

-- case 3 tests the table
pub case_unsound : (n : ℕ) (t : Table) (e : Event) → case 3 (cases n t e) ≡ not (sound t)
unfolding case
case_unsound n t e = go (about e).wakes
  where
    go :
        (b : Bool) →
        case 3 (cond b (list_cases n) [] ++ cases_by (applies t (calling (job_of e) (tick_of e) (set_of e))) (refusals_of (about e)))
        ≡ not (sound t)
    go true = refl
    go false = refl

-- the table was sound
pub was_sound : (n : ℕ) (t : Table) (e : Event) → Accepts n t e → SoundTable t
was_sound n t e acc = table_sound t (not-false (sound t) (sym (case_unsound n t e) ∙ passed n t e acc 3))

-- ---- What is left and said

pub leaves_new : {A : Type 0} (cs : List Case) (old new : A) → first cs ≡ 0 → leaves cs old new ≡ new
unfolding leaves
leaves_new cs old new ok = rw ok

-- an accepted event is answered and leaves what it says
pub next_accepted : (n : ℕ) (t : Table) (e : Event) → Accepts n t e → next n t e ≡ accepted t e
unfolding next
next_accepted n t e ok = leaves_new (cases n t e) t (accepted t e) ok

pub next_tokens : (n : ℕ) (t : Table) (e : Event) → Accepts n t e → (next n t e).tokens ≡ t.tokens
next_tokens n t e ok = rw (next_accepted n t e ok)

pub answer_accepted : (n : ℕ) (t : Table) (e : Event) → Accepts n t e → answer n t e ≡ fine (said t e)
unfolding answer outcome
answer_accepted n t e ok = rw ok

-- ---- Whose an accepted event is

-- what the cases of an event say of its job, once it is known whose the event is
module _ (n : ℕ) (t : Table) (e : Event) (ok : Accepts n t e) where
  abbrev j : ℕ
  j = job_of e

  -- the case numbered k, for an event of this role, set and own refusals
  abbrev case_by : Bool → Role → Bool → List Refusal → ℕ → Bool
  case_by w r s own k =
      case k
      (cond w (list_cases n) []
      ++ cases_by (applies t (calling j (tick_of e) (set_of e))) (refusals_of (record { number = 0; role = r; set = s; wakes = w; own = own })))

  -- whoever acts may act
  pub acts : (about e).role ≡ actor → Acts t j
  unfolding case
  acts is = go (about e).wakes (about e).role (about e).set (about e).own is (passed n t e ok)
    where
      go : (w : Bool) (r : Role) (s : Bool) (own : List Refusal) → r ≡ actor → ((k : ℕ) → case_by w r s own k ≡ false) → Acts t j
      go w nobody s own q off = let z : ◌≡◌ {A = ℕ} 0 1 = cc in absurd (omega arith)
      go w opener s own q off = let z : ◌≡◌ {A = ℕ} 0 1 = cc in absurd (omega arith)
      go true actor s own q off =
          record {
            below = leb-false _ _ (off 4);
            alive = ltb-true _ _ (not-false _ (off 8));
            has = ltb-true _ _ (not-false _ (off 9));
            nothing = le-zero (ltb-false _ _ (off 10));
          }
      go false actor s own q off =
          record {
            below = leb-false _ _ (off 4);
            alive = ltb-true _ _ (not-false _ (off 8));
            has = ltb-true _ _ (not-false _ (off 9));
            nothing = le-zero (ltb-false _ _ (off 10));
          }

  -- whoever opens is a job without a request
  pub comes : (about e).role ≡ opener → (j < jobs) × ((row_in t j).turn.0 ≡ 0)
  unfolding case
  comes is = go (about e).wakes (about e).role (about e).set (about e).own is (passed n t e ok)
    where
      go :
          (w : Bool) (r : Role) (s : Bool) (own : List Refusal) → r ≡ opener → ((k : ℕ) → case_by w r s own k ≡ false) →
          (j < jobs) × ((row_in t j).turn.0 ≡ 0)
      go w nobody s own q off = let z : ◌≡◌ {A = ℕ} 0 1 = cc in absurd (omega arith)
      go w actor s own q off = let z : ◌≡◌ {A = ℕ} 0 1 = cc in absurd (omega arith)
      go true opener s own q off = (leb-false _ _ (off 4), le-zero (ltb-false _ _ (off 7)))
      go false opener s own q off = (leb-false _ _ (off 4), le-zero (ltb-false _ _ (off 7)))

module _ (n : ℕ) (t : Table) (j : ℕ) (tick : Tick) (s : ℕ) (ok : Accepts n t (Open j tick s)) where
  pub open_below : j < jobs
  open_below = (comes n t (Open j tick s) ok refl).0

  pub open_idle : (row_in t j).turn.0 ≡ 0
  open_idle = (comes n t (Open j tick s) ok refl).1

-- neither waits
pub idle_rests : (t : Table) (j : ℕ) → (row_in t j).turn.0 ≡ 0 → waiting t.tokens t.rows (row_in t j) ≡ false
idle_rests t j e = rw (le-ltb 0 (row_in t j).turn.0 (le_of_eq e))

pub actor_rests : {t : Table} {j : ℕ} → Acts t j → waiting t.tokens t.rows (row_in t j) ≡ false
actor_rests {t} {j} a = (waiting_reads t.tokens t.rows (row_in t j) a.alive).fails.1 (a.has, a.nothing)

-- so whoever an accepted event names does not wait
pub named_rests :
    (n : ℕ) (t : Table) (e : Event) → Accepts n t e → (k : ℕ) → names k e ≡ true →
    waiting t.tokens t.rows (row_in t k) ≡ false
named_rests n t e ok k named =
    subst (λ (i : ℕ). waiting t.tokens t.rows (row_in t i) ≡ false)
    (eqb-true (job_of e) k (and_right (has_job (about e).role) (eqb (job_of e) k) named))
    (go (about e).role refl (and_left (has_job (about e).role) (eqb (job_of e) k) named))
  where
    go : (r : Role) → (about e).role ≡ r → has_job r ≡ true → waiting t.tokens t.rows (row_in t (job_of e)) ≡ false
    go nobody is some = absurd (false≢true some)
    go opener is some = idle_rests t (job_of e) (comes n t e ok is).1
    go actor is some = actor_rests (acts n t e ok is)
