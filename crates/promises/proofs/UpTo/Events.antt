-- What an event does to the requests of turns up to n: none of another changes anything of theirs, and whom it wakes among
-- them is said by their rows alone.
use Rattle.std.specs.Prelude.{◌&&◌, ◌+◌, ◌∷◌, ◌≡◌}
use Rattle.promises.specs.Prelude.{Bool, Table, [], about, accepted, ap, arith, cond, course, earlier_turn, eqb, eqb-true, ext_get_or, false, false≢true, has_job, idle, job_of, jobs, keep, length-map, lt-ltb, ltb-true, next, refl, row_in, sym, true, true≢false, turn_earlier, wakes, woken, ℕ, ◌∙◌}
use Rattle.event.specs.declared.events.Event.{Event}
use Rattle.promises.specs.Demand.Statement.{Beside}
use Rattle.promises.proofs.Demand.Others.{unmoved}
use Rattle.promises.specs.History.Words.{lists, taken, Along}
use Rattle.promises.proofs.History.Events.{next_either}
use Rattle.promises.proofs.History.Count.{along_next}
use Rattle.promises.proofs.History.Turn.{back_run}
use Rattle.kept.specs.Accepted.{next_accepted}
use Rattle.kept.specs.Woken.{wakes_woken}
use Rattle.kept.specs.Sound.Words.{seen}
use Rattle.promises.specs.UpTo.Statement.{is_of_them, of_them, up_to}
use Rattle.promises.proofs.UpTo.Line.{woken_none, woken_up_to}
use Rattle.promises.proofs.UpTo.Rows.{row_up_to, seen_out}

-- a refused event leaves the table
pub refused_stays : (t : Table) (e : Event) → taken t e ≡ false → next jobs t e ≡ t
refused_stays t e = next_either t e (λ b u. b ≡ false → u ≡ t) (λ ok q. absurd (true≢false q)) (λ q. refl)

module _ {T n : ℕ} (t : Table) (along : Along T n t) (e : Event) where
  -- whoever is among them after an event was before it
  back_among : (i : ℕ) → is_of_them n (next jobs t e) i ≡ true → is_of_them n t i ≡ true
  unfolding course
  back_among i q =
      let p = earlier_turn (n + 1) (row_in (next jobs t e) i) q in
      let k = (row_in (next jobs t e) i).turn.0 in
      let lower : Along T k t = record { wide = along.wide; tokens = along.tokens; given = omega (arith, along.given) } in
      let bore = back_run t lower p.0 i (e ∷ []) refl in
      turn_earlier (n + 1) (row_in t i) (omega arith) (omega arith)

  -- an event that is none of theirs names none of them
  beside : of_them n t e ≡ false → Beside n t e
  beside out i lives low = go (has_job (about e).role) (eqb (job_of e) i) refl out
    where
      go : (b c : Bool) → eqb (job_of e) i ≡ c → (b && is_of_them n t (job_of e)) ≡ false → (b && c) ≡ false
      go true true q out =
          let member = turn_earlier (n + 1) (row_in t i) (ltb-true 0 (row_in t i).turn.0 lives) (omega arith) in
          sym member ∙ ap (is_of_them n t) (sym (eqb-true (job_of e) i q)) ∙ out
      go true false q out = refl
      go false c q out = refl

  pub others : of_them n t e ≡ false → up_to n (next jobs t e).rows ≡ up_to n t.rows
  others out =
      ext_get_or idle (up_to n (next jobs t e).rows) (up_to n t.rows)
      (length-map (next jobs t e).rows (seen (n + 1))
      ∙ (along_next along e).wide ∙ sym along.wide ∙ sym (length-map t.rows (seen (n + 1))))
      (λ i inside.
      row_up_to n (next jobs t e).rows i
      ∙ go i (is_of_them n t i) refl (is_of_them n (next jobs t e) i) refl
      ∙ sym (row_up_to n t.rows i))
    where
      go :
          (i : ℕ) (b : Bool) → is_of_them n t i ≡ b → (c : Bool) → is_of_them n (next jobs t e) i ≡ c →
          seen (n + 1) (row_in (next jobs t e) i) ≡ seen (n + 1) (row_in t i)
      go i true p c q =
          let turn = earlier_turn (n + 1) (row_in t i) p in
          ap (seen (n + 1)) ((unmoved t along e (beside out)).row i (lt-ltb 0 (row_in t i).turn.0 turn.0) (omega arith))
      go i false p true q = absurd (false≢true (sym p ∙ back_among i q))
      go i false p false q = seen_out (n + 1) (row_in (next jobs t e) i) q ∙ sym (seen_out (n + 1) (row_in t i) p)

  -- of the woken, those among them are those that the rows up to n say
  pub listed_woken :
      keep (is_of_them n (next jobs t e)) (lists t e) ≡ woken T (up_to n t.rows) (up_to n (next jobs t e).rows)
  unfolding keep
  listed_woken =
      next_either t e
      (λ b u. keep (is_of_them n u) (cond b (wakes t e) []) ≡ woken T (up_to n t.rows) (up_to n u.rows))
      (λ ok.
      ap (keep (is_of_them n (accepted t e))) (rw (next_accepted jobs t e ok) at (wakes_woken jobs t e ok))
      ∙ woken_up_to n t.tokens t.rows (accepted t e).rows (λ i. rw (next_accepted jobs t e ok) at (back_among i))
      ∙ ap (λ (T : ℕ). woken T (up_to n t.rows) (up_to n (accepted t e).rows)) along.tokens)
      (sym (woken_none T (up_to n t.rows)))
