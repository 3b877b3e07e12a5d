-- The entries before the present one are filled.
use Rattle.std.specs.Prelude.{◌≡◌}
use Rattle.cases.specs.Prelude.{take}
use Rattle.cases.specs.Calls.{lent}
use Rattle.cases.proofs.handed.lend.Given as goal

abbrev pub invariant-loop-i : goal.invariant-loop-i
invariant-loop-i l = take l.i l.list ≡ lent l.i
