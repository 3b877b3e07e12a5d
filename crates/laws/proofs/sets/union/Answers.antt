-- The code computes the definition.
use Rattle.laws.specs.Prelude.{refl}
use Rattle.laws.specs.Sets.{union}
use Rattle.laws.proofs.sets.union.Goals as goal

pub returns : goal.returns
unfolding union
returns c = refl
