-- What came is no longer than the piece.
use Rattle.std.specs.Prelude.{◌-◌, ◌≤◌}
use Rattle.stream.specs.Prelude.{length}
use Rattle.stream.proofs.input.fill.Given as goal

abbrev pub invariant-loop-count : goal.invariant-loop-count
invariant-loop-count g l = l.count ≤ length l.piece

abbrev pub decreases-loop-count : goal.decreases-loop-count
decreases-loop-count g l = length l.initial.piece - l.count
