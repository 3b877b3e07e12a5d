-- No failure is forgotten.
use Rattle.std.specs.Prelude.{◌≤◌}
use Rattle.shown.proofs.tables.show_row.Given as goal

abbrev pub invariant-loop-number : goal.invariant-loop-number
invariant-loop-number g l = l.initial.printer.failures ≤ l.printer.failures
