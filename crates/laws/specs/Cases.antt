-- Numbered cases in the order in which they are looked at, and the first that applies.
use Rattle.std.specs.Prelude.{ℕ, ◌+◌, zero, suc, Bool, true, false, cond, ◌&&◌, List, [], ◌∷◌, ltb, eqb}
use Rattle.laws.specs.Lists.{all, any}

-- a case: its number, and whether it applies
pub record Case : Type 0 where
  pub number : ℕ
  pub applies : Bool

-- the case numbered n, which applies when b is true
abbrev pub when : ℕ → Bool → Case
when n b = record { number = n; applies = b }

-- the number of the first case that applies, 0 if none does
unfoldable pub first : List Case → ℕ
first [] = 0
first (c ∷ cs) = cond c.applies c.number (first cs)

-- the place of a number in an order of numbers, from 1 on
abbrev pub place_in : List ℕ → ℕ → ℕ
place_in [] n = 1
place_in (m ∷ order) n = cond (eqb m n) 1 (1 + place_in order n)

-- the places of the numbers ascend, from above k on
unfoldable pub ascends : List ℕ → ℕ → List Case → Bool
ascends order k [] = true
ascends order k (c ∷ cs) = ltb k (place_in order c.number) && ascends order (place_in order c.number) cs

-- the cases stand in that order, and it has the number of each
abbrev pub follows : List ℕ → List Case → Bool
follows order cs = all (λ c. any (eqb c.number) order) cs && ascends order 0 cs

-- every number is positive, so that 0 stands for no case
abbrev pub positive : List Case → Bool
positive [] = true
positive (c ∷ cs) = ltb 0 c.number && positive cs

-- whether the case numbered n applies; of two so numbered the earlier
unfoldable pub case : ℕ → List Case → Bool
case n [] = false
case n (c ∷ cs) = cond (eqb c.number n) c.applies (case n cs)

-- what a call answers: the number of its refusal, or its value
pub data Outcome (A : Type 0) : Type 0 where
  refused : ℕ → Outcome A
  fine : A → Outcome A

-- the value where the number is 0, which stands for no refusal, else that refusal
abbrev pub unless : {A : Type 0} → ℕ → A → Outcome A
unless zero a = fine a
unless (suc n) a = refused (suc n)

-- refused by the first case that applies; with none, the value
unfoldable pub outcome : {A : Type 0} → List Case → A → Outcome A
outcome cs a = unless (first cs) a

-- the new value where the number is 0, else the old
abbrev pub keep_unless : {A : Type 0} → ℕ → A → A → A
keep_unless zero old new = new
keep_unless (suc n) old new = old

-- what a call leaves: as it was if some case applies, else the new value
unfoldable pub leaves : {A : Type 0} → List Case → A → A → A
leaves cs old new = keep_unless (first cs) old new
