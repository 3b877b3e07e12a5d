-- The tests are the conditions, joined in their order; a limit of 32 bits is at most 2^32-1.
use Rattle.std.specs.Prelude.{◌-◌, ◌^◌, ◌≤◌}
use Rattle.soundness.specs.Prelude.{all, and_assoc, and-true, arith, le-leb}
use Rattle.soundness.proofs.in_range.Goals as goal

pub returns : goal.returns
unfolding all
returns c =
    let fits : c.args.limit ≤ 2 ^ 32 - 1 = omega arith in
    simp (and_assoc, and-true, le-leb c.args.limit (2 ^ 32 - 1) fits)
