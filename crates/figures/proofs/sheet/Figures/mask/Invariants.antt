-- No failure is forgotten.
use Rattle.std.specs.Prelude.{◌≤◌}
use Rattle.figures.proofs.sheet.Figures.mask.Given as goal

abbrev pub invariant-loop-figures : goal.invariant-loop-figures
invariant-loop-figures g l = l.initial.printer.failures ≤ l.printer.failures
