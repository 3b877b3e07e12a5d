-- No failure is forgotten.
use Rattle.std.specs.Prelude.{◌≤◌}
use Rattle.wave.proofs.header.all_starts.Given as goal

abbrev pub invariant-loop-job : goal.invariant-loop-job
invariant-loop-job g l = l.initial.printer.failures ≤ l.printer.failures
