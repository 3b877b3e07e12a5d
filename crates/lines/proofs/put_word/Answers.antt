-- A refusal's number; the other answers the check finds.
use Rattle.lines.specs.Lines.{word_text}
use Rattle.lines.specs.Promises.{word_from}
use Rattle.lines.proofs.put_word.Goals as goal

pub returns-in-Err-clause-puts : goal.returns-in-Err-clause-puts
unfolding word_from word_text
returns-in-Err-clause-puts c = rw (c.in-Err.is, ← c.from.ensures) c.put_no.ensures.puts
