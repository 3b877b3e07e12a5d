-- No failure is forgotten.
use Rattle.std.specs.Prelude.{◌≤◌}
use Rattle.wave.proofs.dump.binary.Given as goal

abbrev pub invariant-loop-place : goal.invariant-loop-place
invariant-loop-place g l = l.initial.printer.failures ≤ l.printer.failures
