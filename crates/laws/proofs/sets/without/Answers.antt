-- The code computes the definition, and what it takes away is never more than `s`.
use Rattle.laws.specs.Prelude.{refl}
use Rattle.laws.specs.Sets.{meet, without}
use Rattle.laws.proofs.sets.without.Goals as goal

pub returns : goal.returns
unfolding without meet
returns c = refl
