-- A job that enters and may not act is refused by the second part.
use Rattle.std.specs.Prelude.{refl}
use Rattle.std.proofs.lemmas.Result.{err_from_is_err_and}
use Rattle.grounds.specs.Grounds.{actor_cases, entry_cases}
use Rattle.grounds.specs.Refusals.{calling}
use Rattle.verdict.proofs.Verdicts.{by_rest}
use Rattle.verdict.proofs.complete_verdict.Goals as goal

pub returns-in_err-actor_verdict : goal.returns-in_err-actor_verdict
returns-in_err-actor_verdict c =
    let a = c.args in
    let r = c.from_residual-in_err-actor_verdict in
    let p = err_from_is_err_and r.result r.ensures.1 in
    rw (p.1, p.2)
    (by_rest (entry_cases a.s (calling a.job a.tick.0 0)) (actor_cases a.s) _ _
    refl c.enter.ensures c.in_ok-time.was c.actor_verdict.ensures c.in_err-actor_verdict.was)
