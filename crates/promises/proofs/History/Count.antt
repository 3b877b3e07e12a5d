-- Counts over whole histories: as many as there were, less those that completed.
use Rattle.std.specs.Prelude.{◌+◌, ◌<◌, ◌∷◌, ◌≡◌, ◌≤◌}
use Rattle.promises.specs.Prelude.{Ask, Beat, Bool, Complete, GiveUp, List, Open, Release, Row, Table, [], ◌∙◌, about, accepted, ahead, ahead_set, ahead_settled, ap, arith, bit, cond, course, earlier, false, giving_up, idle, in_way, jobs, live_within, next, opens, refl, row_in, run, set, settled, sym, true, zero-add, ℕ}
use Rattle.event.specs.declared.events.Event.{Event}
use Rattle.promises.proofs.History.Events.{next_either}
use Rattle.promises.specs.History.Words.{Along, completing_by, completions, taken, tally_of}
use Rattle.kept.specs.Accepted.{acts}
use Rattle.kept.specs.Changes.{alike_quiet, clearer, length_after}
use Rattle.kept.specs.Words.{Accepts}

-- ---- What every table of a history keeps

module _ {T n : ℕ} {t : Table} (along : Along T n t) where
  pub along_accepted : (e : Event) → Accepts jobs t e → Along T n (accepted t e)
  along_accepted e ok =
      record {
        wide = length_after jobs t e ok ∙ along.wide;
        tokens = along.tokens;
        given = grows (opens (about e).role);
      }
    where
      grows : (b : Bool) → n ≤ cond b (t.last.0 + 1) t.last.0
      grows true = omega (arith, along.given)
      grows false = along.given

  pub along_next : (e : Event) → Along T n (next jobs t e)
  along_next e = next_either t e (λ b u. Along T n u) (along_accepted e) along

pub along_run : {T n : ℕ} {t : Table} → Along T n t → (es : List Event) → Along T n (run t es)
unfolding course
along_run along [] = along
along_run {t = t} along (e ∷ es) = along_run {t = next jobs t e} (along_next along e) es

-- ---- How many stand before turn n: as many as there were, less those that completed

module _ {T n : ℕ} (t : Table) (along : Along T n t) where
  -- by an event that wakes nobody none goes
  ahead_quiet : (e : Event) → (about e).wakes ≡ false → Accepts jobs t e → ahead (accepted t e).rows n ≡ ahead t.rows n
  ahead_quiet e quiet ok = sym (alike_quiet jobs t e ok n along.given quiet).same_ahead

  -- those before it after an event that writes row k and settles the rows
  ahead_written :
      (k : ℕ) (r : Row) → 0 < (row_in t k).turn.0 →
      ahead (settled t.tokens (set t.rows k r)) n + bit (earlier n (row_in t k)) ≡ ahead t.rows n + bit (earlier n r)
  ahead_written k r alive =
      ap (λ (before : ℕ). before + bit (earlier n (row_in t k))) (ahead_settled t.tokens (set t.rows k r) n)
      ∙ ahead_set t.rows k r (live_within t.rows k alive) n

  -- by a completion the one that completes, by every other event none
  ahead_after : (e : Event) → Accepts jobs t e → completing_by (earlier n) t e + ahead (accepted t e).rows n ≡ ahead t.rows n
  ahead_after (Beat tick) ok = zero-add _ ∙ ahead_quiet (Beat tick) refl ok
  ahead_after (Open k tick s) ok = zero-add _ ∙ ahead_quiet (Open k tick s) refl ok
  ahead_after (Ask k tick s) ok = zero-add _ ∙ ahead_quiet (Ask k tick s) refl ok
  ahead_after (Release k tick s) ok = zero-add _ ∙ ahead_quiet (Release k tick s) refl ok
  ahead_after (Complete k tick) ok = omega (arith, ahead_written k idle (acts jobs t (Complete k tick) ok refl).alive)
  ahead_after (GiveUp k tick s) ok =
      omega (arith, ahead_written k (giving_up (row_in t k) s) (acts jobs t (GiveUp k tick s) ok refl).alive)

  ahead_next :
      (e : Event) → cond (taken t e) (completing_by (earlier n) t e) 0 + ahead (next jobs t e).rows n ≡ ahead t.rows n
  ahead_next e =
      next_either t e (λ b u. cond b (completing_by (earlier n) t e) 0 + ahead u.rows n ≡ ahead t.rows n)
      (ahead_after e)
      (zero-add _)

module _ {T n : ℕ} where
  pub ahead_run :
      (t : Table) → Along T n t → (es : List Event) → completions (earlier n) t es + ahead (run t es).rows n ≡ ahead t.rows n
  unfolding tally_of course
  ahead_run t along [] = zero-add _
  ahead_run t along (e ∷ es) = omega (arith, ahead_next t along e, ahead_run (next jobs t e) (along_next along e) es)

  -- and of those before it no more come to declare any of a set
  pub way_falls : (t : Table) → Along T n t → (x : ℕ) (es : List Event) → in_way (run t es).rows n x ≤ in_way t.rows n x
  unfolding course
  way_falls t along x [] = omega arith
  way_falls t along x (e ∷ es) =
      let step : in_way (next jobs t e).rows n x ≤ in_way t.rows n x =
      next_either t e (λ b u. in_way u.rows n x ≤ in_way t.rows n x)
      (λ ok. (clearer jobs t e ok n along.given).less_way x)
      (omega arith) in
      omega (arith, way_falls (next jobs t e) (along_next along e) x es)
