-- Ranges of sets that code computes.
use Rattle.std.specs.Prelude.{◌<◌, ◌^◌, ◌≡◌, ◌≤◌}
use Rattle.laws.specs.Prelude.{and_le_l, lt-ltb, lt_of_lt_of_le, pow_mono, true, ℕ}
use Rattle.laws.specs.Sets.{meet, below}

pub meet_le : (s t : ℕ) → meet s t ≤ s
unfolding meet
meet_le = and_le_l

-- a set of k bits is below every r from k on
pub below_wide : (k s r : ℕ) → s < 2 ^ k → k ≤ r → below s r ≡ true
unfolding below
below_wide k s r h g = lt-ltb s (2 ^ r) (lt_of_lt_of_le h (pow_mono g))
