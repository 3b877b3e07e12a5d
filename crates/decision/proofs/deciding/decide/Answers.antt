-- A refused verdict is the decision; an accepted one gives the time at which the event changes what it changes.
use Rattle.std.proofs.lemmas.Result.{err_from_is_err_and}
use Rattle.decision.specs.Prelude.{acceptance_tells, ap, fine, refusal_tells, sym, tick_of, time_from, ℕ, ◌∙◌}
use Rattle.decision.specs.Changes.{change_at, change_for, refusal_cases}
use Rattle.decision.specs.Accepting.{judged, saw_sound}
use Rattle.decision.proofs.deciding.decide.Goals as goal

pub returns-in_err-time : goal.returns-in_err-time
returns-in_err-time c =
    let a = c.args in
    let p = err_from_is_err_and c.from_residual.result c.from_residual.ensures.1 in
    let v = judged c.in_err-time.was c.verdict.ensures in
    rw (p.1, p.2)
    (sym ((refusal_tells (refusal_cases a.s a.event) (time_from a.s.time (tick_of a.event)) _ (sym v)).1 (change_for a.s a.forbidden a.token a.event)))

pub change_at-requires : goal.change_at-requires
change_at-requires c =
    c.requires (saw_sound c.args.s c.args.event _ _ (judged c.in_ok-time.was c.verdict.ensures))

pub returns : goal.returns
returns c =
    let a = c.args in
    let v = judged c.in_ok-time.was c.verdict.ensures in
    let told = acceptance_tells (refusal_cases a.s a.event) (time_from a.s.time (tick_of a.event)) _ (sym v) in
    ap fine (c.change_at.ensures ∙ ap (λ (time : ℕ). change_at a.s time a.forbidden a.token a.event) (sym told.1))
    ∙ sym (told.2 (change_for a.s a.forbidden a.token a.event))
