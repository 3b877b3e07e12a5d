-- The word, and the digits after it.
use Rattle.lines.specs.Prelude.{arith, wrote_length}
use Rattle.lines.specs.PieceLaws.{then}
use Rattle.lines.proofs.text.Text.word.Goals as goal

pub number-requires : goal.number-requires
number-requires c = omega (arith, wrote_length c.put.ensures.wrote)

pub returns : goal.returns
returns c = then c.put.ensures c.number.ensures
