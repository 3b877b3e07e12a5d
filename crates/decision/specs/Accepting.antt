-- What a verdict tells.
use Rattle.std.specs.Prelude.{◌≡◌}
use Rattle.decision.specs.Prelude.{Event, Outcome, Refusal, Result, Seen, ◌∙◌, about, acceptance_tells, ap, applies_to, calling, case, cases_positive, clear, fine, job_of, not-false, outcome, outcome_of, refusals_of, set_of, sym, tick_of, true, ℕ}
use Rattle.decision.specs.Changes.{refusal_cases}

-- a result that turned out to be w says what v says
pub judged : {A : Type 0} {v w : Result A Refusal} {o : Outcome A} → v ≡ w → outcome_of v ≡ o → outcome_of w ≡ o
judged is e = sym (ap outcome_of is) ∙ e

-- under the cases of an event none of which applies, the table is seen to be sound
pub saw_sound : {A : Type 0} (s : Seen) (e : Event) (a x : A) → fine x ≡ outcome (refusal_cases s e) a → s.sound ≡ true
unfolding case
saw_sound {A} s e a x v =
    let cs = refusal_cases s e in
    let some = cases_positive (applies_to s (calling (job_of e) (tick_of e) (set_of e))) (refusals_of (about e)) in
    not-false s.sound (clear 3 cs some (acceptance_tells {B = ℕ} cs a x (sym v)).0)
