-- Whom an accepted event wakes: a job that waits before it and not after it is listed once, and no other.
use Rattle.std.specs.Prelude.{◌&&◌, ◌≡◌}
use Rattle.promises.specs.Prelude.{Bool, Table, accepted, ap, bit, count, eqb, false, jobs, listed_once, names, refl, row_in, sym, true, waiting, wakes, woke, woken, ℕ, ◌∙◌}
use Rattle.event.specs.declared.events.Event.{Event}
use Rattle.promises.specs.History.Words.{Bears}
use Rattle.promises.proofs.History.Row.{bears_after, lives}
use Rattle.kept.specs.Words.{Accepts}
use Rattle.kept.specs.Accepted.{named_rests, next_accepted}
use Rattle.kept.specs.Woken.{wakes_woken}

-- ---- While a job waits, its own events are refused

module _ (t : Table) where
  abbrev waits : ℕ → Bool
  waits j = waiting t.tokens t.rows (row_in t j)

  waits_unnamed : (j : ℕ) → waits j ≡ true → (e : Event) → Accepts jobs t e → names j e ≡ false
  waits_unnamed j w e ok = go (names j e) refl
    where
      go : (b : Bool) → names j e ≡ b → b ≡ false
      go true q = sym w ∙ named_rests jobs t e ok j q
      go false q = refl

-- ---- Who is listed

module _ {T n j : ℕ} {t : Table} (b : Bears T n j t) where
  -- a waiting job is named by no accepted event
  pub unnamed : waiting T t.rows (row_in t j) ≡ true → (e : Event) → Accepts jobs t e → names j e ≡ false
  unnamed w = waits_unnamed t j (ap (λ (T : ℕ). waiting T t.rows (row_in t j)) b.along.tokens ∙ w)

  -- an event lists a job that it does not name, once, exactly where that job waits before it and not after it
  pub listed_after :
      (e : Event) → Accepts jobs t e → names j e ≡ false →
      count (eqb j) (wakes t e) ≡ bit (woke T t.rows (accepted t e).rows j)
  unfolding woken
  listed_after e ok u =
      let after = (accepted t e).rows in
      ap (count (eqb j)) (rw (next_accepted jobs t e ok) at (wakes_woken jobs t e ok))
      ∙ listed_once (woke t.tokens t.rows after) after j
      ∙ (λ i. bit (lives (bears_after b e ok u) i && woke (b.along.tokens i) t.rows after j))
