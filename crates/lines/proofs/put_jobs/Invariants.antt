-- The loop keeps: the jobs so far are written, and each took at most four bytes.
use Rattle.lines.specs.Lines.{items}
use Rattle.lines.specs.PieceLaws.{Putting}
use Rattle.lines.proofs.put_jobs.Given as goal

abbrev pub invariant-loop-job : goal.invariant-loop-job
invariant-loop-job l = Putting items l.jobs 4 l.initial.line l.job-index l.line
