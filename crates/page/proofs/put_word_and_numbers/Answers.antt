-- The word, the numbers and the line's end.
use Rattle.page.specs.Prelude.{arith, then, wrote_length}
use Rattle.page.specs.Page.{word_and_numbers}
use Rattle.page.proofs.put_word_and_numbers.Goals as goal

pub put_numbers-requires : goal.put_numbers-requires
put_numbers-requires c = omega (arith, wrote_length c.put.ensures.wrote)

pub put-requires-2 : goal.put-requires-2
put-requires-2 c = omega (arith, wrote_length c.put.ensures.wrote, wrote_length c.put_numbers.ensures.puts.wrote)

pub returns-clause-puts : goal.returns-clause-puts
unfolding word_and_numbers
returns-clause-puts c = then (then c.put.ensures c.put_numbers.ensures.puts) c.put-2.ensures
