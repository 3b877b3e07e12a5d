-- From 64 on every set is below `r`, and before that the bits from `r` on are tested.
use Rattle.laws.specs.Prelude.{arith, le-leb, sym, ◌∙◌}
use Rattle.laws.proofs.Ranges.{below_wide}
use Rattle.laws.specs.SetLaws.{below_shift}
use Rattle.laws.proofs.sets.below.Goals as goal

pub returns-then-r-ge64 : goal.returns-then-r-ge64
returns-then-r-ge64 c =
    le-leb _ c.args.r c.if-r-ge64.true
    ∙ sym (below_wide _ c.args.s c.args.r (omega arith) c.if-r-ge64.true)

pub returns-else-r-ge64 : goal.returns-else-r-ge64
returns-else-r-ge64 c = sym (below_shift c.args.s c.args.r)
