-- No failure is forgotten.
use Rattle.std.specs.Prelude.{◌≤◌}
use Rattle.explain.proofs.gains.Given as goal

abbrev pub invariant-loop-job : goal.invariant-loop-job
invariant-loop-job g l = l.initial.printer.failures ≤ l.printer.failures
