-- Chains of tests: what has been found of numbered cases, and conditions that hold one by one.
use Rattle.std.specs.Prelude.{ℕ, Bool, true, false, List, [], ◌∷◌, ◌≡◌}
use Rattle.laws.specs.Cases.{Case, when}

-- ---- The first, step by step: what a chain of tests has found

-- the first that applies is numbered so: there is none, it is this one, or this one is passed over
pub data First : List Case → ℕ → Type 0 where
  none : First [] 0
  this : {n : ℕ} {b : Bool} {cs : List Case} → b ≡ true → First (when n b ∷ cs) n
  past : {n m : ℕ} {b : Bool} {cs : List Case} → b ≡ false → First cs m → First (when n b ∷ cs) m

-- conditions that hold, one by one
pub data Hold : List Bool → Type 0 where
  none : Hold []
  ◌and◌ : {b : Bool} {bs : List Bool} → b ≡ true → Hold bs → Hold (b ∷ bs)

infixr 5 ◌and◌
