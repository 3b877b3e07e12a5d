-- The digits before place k are to come.
use Rattle.decimal.specs.Prelude.{laid}
use Rattle.decimal.specs.Text.{text}
use Rattle.decimal.proofs.Backwards.{ToCome}
use Rattle.decimal.proofs.write.Given as goal

abbrev pub invariant-loop-k : goal.invariant-loop-k
invariant-loop-k l = ToCome (laid l.initial.out l.at (text l.n)) l.out l.at l.k l.left
