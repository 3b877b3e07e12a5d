-- The live requests, the tokens in use and the line's end.
use Rattle.std.proofs.lemmas.Grind.{common_steps}
use Rattle.lines.specs.Prelude.{arith, length_text, wrote_length}
use Rattle.lines.specs.Lines.{end_line}
use Rattle.lines.specs.PieceLaws.{then}
use Rattle.lines.proofs.put_end.Goals as goal

pub word-requires : goal.word-requires
word-requires c = omega (arith, length_text 10 c.from.result (omega arith) (omega arith))

pub word-requires-2 : goal.word-requires-2
word-requires-2 c =
    omega (arith, wrote_length c.word.ensures.wrote, length_text 10 c.from.result (omega arith) (omega arith), length_text 10 c.from-2.result (omega arith) (omega arith))

pub put-requires : goal.put-requires
put-requires c =
    omega (arith, wrote_length c.word.ensures.wrote, wrote_length c.word-2.ensures.wrote, length_text 10 c.from.result (omega arith) (omega arith), length_text 10 c.from-2.result (omega arith) (omega arith))

pub returns : goal.returns
unfolding end_line
returns c =
    let all = then (then c.word.ensures c.word-2.ensures) c.put.ensures in
    rw (← c.live_count-live.ensures, ← c.tokens_in-tokens.ensures, ← c.from.ensures, ← c.from-2.ensures) (grind (arith, common_steps, all.same, all.wrote))
