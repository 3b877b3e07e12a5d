-- The word and at most ten digits.
use Rattle.lines.specs.Prelude.{arith, length_text}
use Rattle.lines.specs.Lines.{word_text}
use Rattle.lines.proofs.put_no.Goals as goal

pub word-requires : goal.word-requires
word-requires c = omega (arith, length_text 10 c.from.result (omega arith) (omega arith))

pub returns-clause-puts : goal.returns-clause-puts
unfolding word_text
returns-clause-puts c = rw (← c.from.ensures) c.word.ensures

pub returns-clause-upper_bound : goal.returns-clause-upper_bound
returns-clause-upper_bound c = omega (arith, length_text 10 c.from.result (omega arith) (omega arith))
