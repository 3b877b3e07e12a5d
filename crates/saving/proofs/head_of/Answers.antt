-- The length of the line is the count; the rest is as the table has it.
use Rattle.saving.proofs.head_of.Goals as goal

pub returns : goal.returns
returns c = rw c.requires.2
