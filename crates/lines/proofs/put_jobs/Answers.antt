-- The loop keeps: the jobs so far are written, and each took at most four bytes.
use Rattle.lines.specs.Prelude.{arith, refl}
use Rattle.lines.specs.PieceLaws.{item_pieces, putting_all, putting_length, putting_more, putting_none}
use Rattle.lines.proofs.put_jobs.Goals as goal

pub loop-job-init : goal.loop-job-init
loop-job-init c = putting_none item_pieces c.args.jobs.now 4 c.args.line.now (omega arith)

pub put_job-requires : goal.put_job-requires
put_job-requires c = omega (arith, putting_length c.loop-job.invariant)

pub loop-job-preserved : goal.loop-job-preserved
loop-job-preserved c = putting_more item_pieces 0 (omega arith) refl c.loop-job.invariant c.put_job.ensures.puts c.put_job.ensures.upper_bound

pub returns-clause-puts : goal.returns-clause-puts
returns-clause-puts c = putting_all c.loop-job.invariant (omega arith)
