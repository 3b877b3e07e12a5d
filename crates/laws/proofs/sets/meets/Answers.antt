-- The code computes the definition.
use Rattle.laws.specs.Prelude.{refl}
use Rattle.laws.specs.Sets.{meets, meet}
use Rattle.laws.proofs.sets.meets.Goals as goal

pub returns : goal.returns
unfolding meets meet
returns c = refl
