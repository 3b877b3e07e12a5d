-- The code computes the definition.
use Rattle.laws.specs.Prelude.{refl}
use Rattle.laws.specs.Sets.{inside, meet}
use Rattle.laws.proofs.sets.inside.Goals as goal

pub returns : goal.returns
unfolding inside meet
returns c = refl
