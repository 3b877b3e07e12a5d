-- Who has gone: how many pass a test before and not after, and how that moves the count of those who pass.
use Rattle.std.specs.Prelude.{◌&&◌, ◌+◌, ◌∷◌, ◌≡◌}
use Rattle.laws.specs.Prelude.{Bool, List, [], arith, false, get_or, length, not, refl, suc, true, ℕ}
use Rattle.laws.specs.Bools.{bit}
use Rattle.laws.specs.Lists.{count, gone}

-- those who pass after, and those who have gone, are those who passed before, and those who have come
pub gone_balance :
    {A : Type 0} (f : A → Bool) (l m : List A) → length l ≡ length m → gone f l m + count f m ≡ count f l + gone f m l
unfolding count gone
gone_balance f [] [] long = refl
gone_balance f [] (y ∷ m) long = absurd (omega arith)
gone_balance f (x ∷ l) [] long = absurd (omega arith)
gone_balance f (x ∷ l) (y ∷ m) long = go (f x) (f y) (gone_balance f l m (omega arith))
  where
    go :
        (a b : Bool) → gone f l m + count f m ≡ count f l + gone f m l →
        bit (a && not b) + gone f l m + (bit b + count f m) ≡ bit a + count f l + (bit (b && not a) + gone f m l)
    go true true more = omega arith
    go true false more = omega arith
    go false true more = omega arith
    go false false more = omega arith

module _ {A : Type 0} (d : A) where
  -- whether the one at this place has gone
  abbrev left : (A → Bool) → List A → List A → ℕ → Bool
  left f l m k = f (get_or l k d) && not (f (get_or m k d))

  -- where nobody has gone at any place, nobody has
  pub gone_none : (f : A → Bool) (l m : List A) → ((k : ℕ) → left f l m k ≡ false) → gone f l m ≡ 0
  unfolding gone
  gone_none f [] m each = refl
  gone_none f (x ∷ l) [] each = refl
  gone_none f (x ∷ l) (y ∷ m) each = rw (each 0, gone_none f l m (λ k. each (suc k)))
