-- The loop keeps: the digits counted and those of the rest are those of n, with one counted in advance.
use Rattle.decimal.specs.Prelude.{arith}
use Rattle.decimal.specs.TextLaws.{length_text_small, length_text_large, length_text_pos, length_text_u64}
use Rattle.decimal.proofs.len.Goals as goal

pub overflow_add-count : goal.overflow_add-count
overflow_add-count c = omega (arith, length_text_u64 c.args.n (omega arith), length_text_pos c.loop-rest.rest)

pub loop-rest-preserved : goal.loop-rest-preserved
loop-rest-preserved c = omega (arith, length_text_large c.loop-rest.rest (omega arith))

pub returns : goal.returns
returns c = omega (arith, length_text_small c.loop-rest.rest (omega arith))
