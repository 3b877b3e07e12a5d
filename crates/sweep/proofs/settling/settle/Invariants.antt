-- The loop keeps: so many jobs of the line are passed, and the rows, the list and what stands before the next are as the sweep
-- has made them.
use Rattle.sweep.proofs.Turns.{At}
use Rattle.sweep.proofs.settling.settle.Given as goal

abbrev pub invariant-loop-job : goal.invariant-loop-job
invariant-loop-job l = At l.fn.rows l.b l.fn.k l.fn.row l.fn.woken l.rows l.woken l.s l.n l.job-index
