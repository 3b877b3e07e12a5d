-- No failure is forgotten.
use Rattle.std.specs.Prelude.{◌≤◌}
use Rattle.figures.proofs.printing.all_refusals.Given as goal

abbrev pub invariant-loop-number : goal.invariant-loop-number
invariant-loop-number g l = l.initial.printer.failures ≤ l.printer.failures
