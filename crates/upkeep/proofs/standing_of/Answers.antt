-- The loop keeps: what is found from place p on, with the claims before it, is what is found from the front on.
use Rattle.upkeep.specs.Prelude.{◌∙◌, arith, sym}
use Rattle.line.specs.LineInCode.{jobs_of}
use Rattle.upkeep.proofs.Loops.{standing_here, standing_next, standing_none}
use Rattle.upkeep.proofs.standing_of.Goals as goal

pub returns-then-other-job : goal.returns-then-other-job
returns-then-other-job c =
    let a = c.args in
    rw (← c.live.ensures, c.if-not-live.false)
    (sym (standing_here a.declared.now a.job (jobs_of a.line.now) c.loop-p.p c.loop-p.claims (omega arith) c.if-other-job.true)
    ∙ c.loop-p.invariant)

pub loop-p-preserved : goal.loop-p-preserved
loop-p-preserved c =
    let a = c.args in
    rw c.union-claims.ensures
    (sym (standing_next a.declared.now a.job (jobs_of a.line.now) c.loop-p.p c.loop-p.claims (omega arith) c.if-other-job.false)
    ∙ c.loop-p.invariant)

pub returns : goal.returns
returns c =
    let a = c.args in
    rw (← c.live.ensures, c.if-not-live.false)
    (c.front-2.ensures
    ∙ sym (standing_none a.declared.now a.job (jobs_of a.line.now) c.loop-p.p c.loop-p.claims (omega arith))
    ∙ c.loop-p.invariant)
