-- The number, the word and the line's end.
use Rattle.std.proofs.lemmas.Grind.{common_steps}
use Rattle.lines.specs.Prelude.{arith, length_text_u64, wrote_length}
use Rattle.lines.specs.Lines.{line}
use Rattle.lines.specs.PieceLaws.{then}
use Rattle.lines.proofs.put_line.Goals as goal

pub number-requires : goal.number-requires
number-requires c = omega (arith, length_text_u64 c.args.number (omega arith))

pub put_word-requires : goal.put_word-requires
put_word-requires c = omega (arith, wrote_length c.number.ensures.wrote, length_text_u64 c.args.number (omega arith))

pub put-requires : goal.put-requires
put-requires c =
    omega (arith, wrote_length c.number.ensures.wrote, wrote_length c.put_word.ensures.puts.wrote, length_text_u64 c.args.number (omega arith))

pub returns-clause-wrote : goal.returns-clause-wrote
unfolding line
returns-clause-wrote c =
    let all = then (then c.number.ensures c.put_word.ensures.puts) c.put.ensures in
    grind (arith, common_steps, all.same, all.wrote)

pub returns-clause-upper_bound : goal.returns-clause-upper_bound
returns-clause-upper_bound c = omega (arith, c.put.ensures.wrote.ends, length_text_u64 c.args.number (omega arith))
