-- Conditions that all hold, one by one and by their places.
use Rattle.std.specs.Prelude.{◌≡◌}
use Rattle.laws.specs.Prelude.{Bool, List, get_or, refl, true, ℕ}
use Rattle.laws.specs.Counts.{all_each}
use Rattle.laws.specs.Lists.{all, holds}
use Rattle.laws.specs.Chains.{Hold, none, ◌and◌}

pub hold : {bs : List Bool} → Hold bs → holds bs ≡ true
unfolding all
hold none = refl
hold (e and es) = rw e (hold es)

-- each holds, by its place
pub nth : (bs : List Bool) → holds bs ≡ true → (k : ℕ) → get_or bs k true ≡ true
nth = all_each (λ b. b) true refl
