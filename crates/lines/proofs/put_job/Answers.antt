-- A space and at most three digits.
use Rattle.lines.specs.Prelude.{arith, length_text}
use Rattle.lines.proofs.put_job.Goals as goal

pub word-requires : goal.word-requires
word-requires c = omega (arith, length_text 3 c.from.result (omega arith) (omega arith))

pub returns-clause-upper_bound : goal.returns-clause-upper_bound
returns-clause-upper_bound c = omega (arith, length_text 3 c.from.result (omega arith) (omega arith))
