-- No failure is forgotten.
use Rattle.std.specs.Prelude.{◌≤◌}
use Rattle.wave.proofs.header.job_start.Given as goal

abbrev pub invariant-loop-variable : goal.invariant-loop-variable
invariant-loop-variable g l = l.initial.printer.failures ≤ l.printer.failures
