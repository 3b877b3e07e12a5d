-- The loop keeps: of the jobs passed n are of lower turn and declare some member.
use Rattle.questions.specs.Prelude.{line}
use Rattle.questions.specs.InCode.{claims_ahead}
use Rattle.questions.proofs.Counting.{Counting}
use Rattle.questions.proofs.along.in_way.Given as goal

abbrev pub invariant-loop-job : goal.invariant-loop-job
invariant-loop-job l = Counting (claims_ahead l.rows l.turn.0 l.s) (line l.rows) l.n l.job-index
