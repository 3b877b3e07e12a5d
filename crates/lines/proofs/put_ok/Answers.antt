-- The word, and the first jobs, each after a space.
use Rattle.std.specs.Prelude.{◌≡◌}
use Rattle.std.proofs.Common.{length-take}
use Rattle.lines.specs.Prelude.{arith, take, take_min, wrote_length}
use Rattle.lines.specs.Lines.{word_text}
use Rattle.lines.specs.PieceLaws.{then}
use Rattle.lines.proofs.put_ok.Goals as goal

pub put_jobs-requires : goal.put_jobs-requires
put_jobs-requires c = omega (arith, wrote_length c.put.ensures.wrote, length-take c.min-some.result c.args.jobs.now)

pub returns-clause-puts : goal.returns-clause-puts
unfolding word_text
returns-clause-puts c =
    let jobs = c.args.jobs.now in
    let same : take c.min-some.result jobs ≡ take c.args.count jobs = rw c.min-some.ensures (take_min c.args.count jobs) in
    rw (← same) (then c.put.ensures c.put_jobs.ensures.puts)
