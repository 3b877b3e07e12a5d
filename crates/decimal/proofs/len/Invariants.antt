-- The loop keeps: the digits counted and those of the rest are those of n, with one counted in advance.
use Rattle.std.specs.Prelude.{◌+◌, ◌≡◌}
use Rattle.decimal.specs.Prelude.{length}
use Rattle.decimal.specs.Text.{text}
use Rattle.decimal.proofs.len.Given as goal

abbrev pub invariant-loop-rest : goal.invariant-loop-rest
invariant-loop-rest l = l.count + length (text l.rest) ≡ length (text l.n) + 1

abbrev pub decreases-loop-rest : goal.decreases-loop-rest
decreases-loop-rest l = l.rest
