-- So many jobs were passed, and the walk goes on along what is left.
use Rattle.walk.specs.PaceLaws.{Pacing}
use Rattle.walk.proofs.walk_of.Given as goal

abbrev pub invariant-loop-k : goal.invariant-loop-k
invariant-loop-k l = Pacing l.b l.rows l.job l.k-index l.w
