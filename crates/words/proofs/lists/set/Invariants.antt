-- No failure is forgotten.
use Rattle.std.specs.Prelude.{◌≤◌}
use Rattle.words.proofs.lists.set.Given as goal

abbrev pub invariant-loop-member : goal.invariant-loop-member
invariant-loop-member g l = l.initial.printer.failures ≤ l.printer.failures
