-- No failure is forgotten.
use Rattle.std.specs.Prelude.{◌≤◌}
use Rattle.stream.proofs.print.Printer.bytes.Given as goal

abbrev pub invariant-loop-byte : goal.invariant-loop-byte
invariant-loop-byte g l = l.initial.self.failures ≤ l.self.failures
