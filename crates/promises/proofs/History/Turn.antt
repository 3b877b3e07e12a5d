-- Whose row it is: a row that bears a turn at the end of a history has borne it since that turn was given, and declares what it
-- did, without what it has given up.
use Rattle.std.specs.Prelude.{◌<◌, ◌∷◌, ◌≡◌}
use Rattle.promises.specs.Prelude.{Ask, Beat, Bool, Complete, GiveUp, List, Open, Release, Row, Table, Tick, [], ◌∙◌, about, accepted, ap, arith, cond, course, eqb, eqb-true, false, false≢true, jobs, next, refl, row_in, run, set_of, subst, sym, true, without, without_none, without_twice, ℕ}
use Rattle.event.specs.declared.events.Event.{Event}
use Rattle.promises.proofs.History.Events.{next_either}
use Rattle.promises.specs.History.Words.{Along, given_up, given_up_by, given_up_of, taken}
use Rattle.promises.proofs.History.Count.{along_next}
use Rattle.kept.specs.Accepted.{next_accepted}
use Rattle.kept.specs.Changes.{changes, unnamed_keeps}
use Rattle.kept.specs.GivenUp.{give_up_leaves}
use Rattle.kept.specs.Words.{Accepts, Change, began, ended, gave, kept}

module _ {T n : ℕ} (t : Table) (along : Along T n t) (some : 0 < n) (j : ℕ) where
  abbrev declared : ℕ
  declared = (row_in t j).declared

  -- a row that bears turn n after an event bore it before
  back : (e : Event) → Change t e j → (row_in (accepted t e) j).turn.0 ≡ n → (row_in t j).turn.0 ≡ n
  back e (kept same) q = ap (λ (r : Row). r.turn.0) (sym same) ∙ q
  back e (gave _ _ _ less) q = ap (λ (r : Row). r.turn.0) (sym less) ∙ q
  back e (ended _ _ _ now) q = absurd (omega (arith, ap (λ (r : Row). r.turn.0) now))
  back e (began _ _ turn) q = absurd (omega (arith, along.given))

  back_next : (e : Event) → (row_in (next jobs t e) j).turn.0 ≡ n → (row_in t j).turn.0 ≡ n
  back_next e =
      next_either t e (λ b u. (row_in u j).turn.0 ≡ n → (row_in t j).turn.0 ≡ n) (λ ok. back e (changes jobs t e ok j)) (λ q. q)

  -- it declares what it did, if the event gives nothing up
  declared_kept :
      (e : Event) → ((about e).wakes ≡ true → set_of e ≡ 0) → Accepts jobs t e → (row_in (accepted t e) j).turn.0 ≡ n →
      (row_in (accepted t e) j).declared ≡ without declared 0
  declared_kept e none ok q = go (changes jobs t e ok j)
    where
      go : Change t e j → (row_in (accepted t e) j).declared ≡ without declared 0
      go (kept same) = ap (λ (r : Row). r.declared) same ∙ sym (without_none declared)
      go (gave loud _ _ less) = ap (λ (r : Row). r.declared) less ∙ ap (without declared) (none loud)
      go (ended _ _ _ now) = absurd (omega (arith, ap (λ (r : Row). r.turn.0) now))
      go (began _ _ turn) = absurd (omega (arith, along.given))

  -- what a give up leaves it, its own or another's
  pub declared_given_up :
      (k : ℕ) (tick : Tick) (s : ℕ) → Accepts jobs t (GiveUp k tick s) →
      (row_in (accepted t (GiveUp k tick s)) j).declared ≡ without declared (cond (eqb k j) s 0)
  declared_given_up k tick s ok = go (eqb k j) refl
    where
      after : Table
      after = accepted t (GiveUp k tick s)

      go : (b : Bool) → eqb k j ≡ b → (row_in after j).declared ≡ without declared (cond b s 0)
      go true own =
          subst (λ (i : ℕ). (row_in after i).declared ≡ without (row_in t i).declared s) (eqb-true k j own)
          (ap (λ (r : Row). r.declared) (rw (next_accepted jobs t (GiveUp k tick s) ok) at (give_up_leaves jobs t k tick s ok).0))
      go false other =
          ap (λ (r : Row). r.declared) (unnamed_keeps t (GiveUp k tick s) j (changes jobs t (GiveUp k tick s) ok j) other)
          ∙ sym (without_none declared)

  pub declared_after :
      (e : Event) → Accepts jobs t e → (row_in (accepted t e) j).turn.0 ≡ n →
      (row_in (accepted t e) j).declared ≡ without declared (given_up_by j e)
  declared_after (Beat tick) = declared_kept (Beat tick) (λ loud. absurd (false≢true loud))
  declared_after (Open k tick s) = declared_kept (Open k tick s) (λ loud. absurd (false≢true loud))
  declared_after (Ask k tick s) = declared_kept (Ask k tick s) (λ loud. absurd (false≢true loud))
  declared_after (Release k tick s) = declared_kept (Release k tick s) (λ loud. absurd (false≢true loud))
  declared_after (Complete k tick) = declared_kept (Complete k tick) (λ _. refl)
  declared_after (GiveUp k tick s) = λ ok q. declared_given_up k tick s ok

  declared_next :
      (e : Event) → (row_in (next jobs t e) j).turn.0 ≡ n →
      (row_in (next jobs t e) j).declared ≡ without declared (cond (taken t e) (given_up_by j e) 0)
  declared_next e =
      next_either t e (λ b u. (row_in u j).turn.0 ≡ n → (row_in u j).declared ≡ without declared (cond b (given_up_by j e) 0))
      (declared_after e) (λ q. sym (without_none declared))

-- a row that bears turn n at the end bore it all along
pub back_run :
    {T n : ℕ} (t : Table) → Along T n t → 0 < n → (j : ℕ) (es : List Event) → (row_in (run t es) j).turn.0 ≡ n →
    (row_in t j).turn.0 ≡ n
unfolding course
back_run t along some j [] q = q
back_run t along some j (e ∷ es) q = back_next t along some j e (back_run (next jobs t e) (along_next along e) some j es q)

-- and declares what it declared, without what it has given up since
pub declared_run :
    {T n : ℕ} (t : Table) → Along T n t → 0 < n → (j : ℕ) (es : List Event) → (row_in (run t es) j).turn.0 ≡ n →
    (row_in (run t es) j).declared ≡ without (row_in t j).declared (given_up j t es)
unfolding course given_up_of
declared_run t along some j [] q = sym (without_none (row_in t j).declared)
declared_run t along some j (e ∷ es) q =
    let step = declared_next t along some j e (back_run (next jobs t e) (along_next along e) some j es q) in
    declared_run (next jobs t e) (along_next along e) some j es q
    ∙ ap (λ (d : ℕ). without d (given_up j (next jobs t e) es)) step
    ∙ without_twice (row_in t j).declared (cond (taken t e) (given_up_by j e) 0) (given_up j (next jobs t e) es)
