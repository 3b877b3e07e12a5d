-- A job that enters and may not open is refused by the second part.
use Rattle.std.specs.Prelude.{refl}
use Rattle.std.proofs.lemmas.Result.{err_from_is_err_and}
use Rattle.grounds.specs.Grounds.{entry_cases}
use Rattle.grounds.specs.Refusals.{calling}
use Rattle.verdict.specs.Verdicts.{open_cases}
use Rattle.verdict.proofs.Verdicts.{by_rest}
use Rattle.verdict.proofs.open_verdict.Goals as goal

pub returns-in_err-open_at : goal.returns-in_err-open_at
returns-in_err-open_at c =
    let a = c.args in
    let r = c.from_residual-in_err-open_at in
    let p = err_from_is_err_and r.result r.ensures.1 in
    rw (p.1, p.2)
    (by_rest (entry_cases a.s (calling a.job a.tick.0 a.set)) (open_cases a.s a.set) _ _
    refl c.enter.ensures c.in_ok-time.was c.open_at.ensures c.in_err-open_at.was)
