-- How many elements of a list pass a test, whether any does, whether all do; and how many have gone.
use Rattle.std.specs.Prelude.{ℕ, ◌+◌, Bool, true, false, not, ◌&&◌, ◌||◌, List, [], ◌∷◌}
use Rattle.laws.specs.Bools.{bit}

module _ {A : Type 0} where
  -- how many elements pass
  unfoldable pub count : (A → Bool) → List A → ℕ
  count f [] = 0
  count f (x ∷ l) = bit (f x) + count f l

  -- whether some element passes
  unfoldable pub any : (A → Bool) → List A → Bool
  any f [] = false
  any f (x ∷ l) = f x || any f l

  -- whether every element passes
  unfoldable pub all : (A → Bool) → List A → Bool
  all f [] = true
  all f (x ∷ l) = f x && all f l

  -- how many elements pass before and not after, place by place
  unfoldable pub gone : (A → Bool) → List A → List A → ℕ
  gone f [] m = 0
  gone f (x ∷ l) [] = 0
  gone f (x ∷ l) (y ∷ m) = bit (f x && not (f y)) + gone f l m

-- every one of these conditions holds
abbrev pub holds : List Bool → Bool
holds = all (λ b. b)
