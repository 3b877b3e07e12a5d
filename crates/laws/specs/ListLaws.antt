-- Laws of how many, any and all.
use Rattle.std.specs.Prelude.{◌&&◌, ◌+◌, ◌++◌, ◌<◌, ◌||◌, ◌∷◌, ◌≡◌, ◌≤◌}
use Rattle.laws.specs.Prelude.{Bool, List, [], add_assoc, add_comm, add-one, add-zero, and_assoc, ap, arith, below_more, drop, drop-cons, drop_of_length-le, false, get_or, get_or-set_other, get_or-set_same, le_of_suc-le-suc, length, lt-ltb, ltb, ltb-false, map, not-suc-le-zero, refl, set, suc, sym, true, zero, zero-add, ℕ, ◌∙◌}
use Rattle.laws.specs.Bools.{bit}
use Rattle.laws.specs.BoolLaws.{bit_le, or_clear}
use Rattle.laws.specs.Lists.{count, any, all}

-- ---- When one element is set

-- one argument for all three: g joins what h says of each element by an operation that may be regrouped and reordered
module _ {A B : Type 0} (◌⊕◌ : B → B → B) (assoc : (a b c : B) → (a ⊕ b) ⊕ c ≡ a ⊕ (b ⊕ c)) (comm : (a b : B) → a ⊕ b ≡ b ⊕ a)
    (h : A → B) (g : List A → B) (step : (x : A) (l : List A) → g (x ∷ l) ≡ h x ⊕ g l) where
  infixl 65 ◌⊕◌
  joined_set : (l : List A) (i : ℕ) (x d : A) → i < length l → g (set l i x) ⊕ h (get_or l i d) ≡ g l ⊕ h x
  joined_set [] i x d below = absurd (not-suc-le-zero below)
  joined_set (y ∷ l) zero x d below = rw (step x l, step y l, comm (h x) (g l), comm (h y) (g l), assoc, assoc, comm (h x) (h y))
  joined_set (y ∷ l) (suc i) x d below =
      rw (step y (set l i x), step y l, assoc, assoc, joined_set l i x d (le_of_suc-le-suc below))

module _ {A : Type 0} (f : A → Bool) where
  pub count_set :
      (l : List A) (i : ℕ) (x d : A) → i < length l → count f (set l i x) + bit (f (get_or l i d)) ≡ count f l + bit (f x)
  unfolding count
  count_set = joined_set ◌+◌ add_assoc add_comm (λ x. bit (f x)) (count f) (λ x l. refl)

-- ---- Of two lists

module _ {A : Type 0} (f : A → Bool) where
  pub all_append : (l m : List A) → all f (l ++ m) ≡ (all f l && all f m)
  unfolding all
  all_append [] m = refl
  all_append (x ∷ l) m = rw (all_append l m) (sym (and_assoc (f x) (all f l) (all f m)))

-- ---- Under map, and for tests that agree

module _ {A B : Type 0} (f : B → Bool) (g : A → B) where
  pub count_map : (l : List A) → count f (map g l) ≡ count (λ x. f (g x)) l
  unfolding count
  count_map [] = refl
  count_map (x ∷ l) = ap (λ (n : ℕ). bit (f (g x)) + n) (count_map l)

  pub any_map : (l : List A) → any f (map g l) ≡ any (λ x. f (g x)) l
  unfolding any
  any_map [] = refl
  any_map (x ∷ l) = ap (λ (b : Bool). f (g x) || b) (any_map l)

  pub all_map : (l : List A) → all f (map g l) ≡ all (λ x. f (g x)) l
  unfolding all
  all_map [] = refl
  all_map (x ∷ l) = ap (λ (b : Bool). f (g x) && b) (all_map l)

-- ---- What one says of another, and of each element

module _ {A : Type 0} (f : A → Bool) where
  -- some element passes exactly when the count is above 0
  pub any_count : (l : List A) → any f l ≡ ltb 0 (count f l)
  unfolding any count
  any_count [] = refl
  any_count (x ∷ l) = go (f x) (any_count l)
    where
      go : (b : Bool) → any f l ≡ ltb 0 (count f l) → (b || any f l) ≡ ltb 0 (bit b + count f l)
      go true ih = sym (lt-ltb 0 (1 + count f l) (omega arith))
      go false ih = rw zero-add ih

  pub count_le : (l : List A) → count f l ≤ length l
  unfolding count
  count_le [] = omega arith
  count_le (x ∷ l) = omega (arith, bit_le (f x), count_le l)

-- ---- From a place on: the element there, and the rest

module _ {A : Type 0} (f : A → Bool) (l : List A) (i : ℕ) (d : A) (below : i < length l) where
  pub count_drop : count f (drop i l) ≡ bit (f (get_or l i d)) + count f (drop (i + 1) l)
  unfolding count
  count_drop = rw (add-one, drop-cons l i d below)

  pub all_drop : all f (drop i l) ≡ (f (get_or l i d) && all f (drop (i + 1) l))
  unfolding all
  all_drop = rw (add-one, drop-cons l i d below)

-- ---- Counting element by element

module _ {A : Type 0} (f : A → Bool) (l : List A) where
  -- n elements before place i pass: with those from i on they are all that pass
  abbrev pub Passed : ℕ → ℕ → Type 0
  Passed i n = n + count f (drop i l) ≡ count f l

  pub passed_none : Passed 0 0
  passed_none = zero-add (count f l)

  pub passed_more : (i n : ℕ) (d : A) → i < length l → Passed i n → Passed (i + 1) (n + bit (f (get_or l i d)))
  passed_more i n d below e = rw (add_assoc, ← count_drop f l i d below) e

  pub passed_all : (i n : ℕ) → length l ≤ i → Passed i n → n ≡ count f l
  unfolding count
  passed_all i n end e = sym (add-zero n) ∙ rw (drop_of_length-le l end) at e

  pub passed_le : (i n : ℕ) → Passed i n → n ≤ length l
  passed_le i n e = omega (arith, count_le f l)

-- ---- Filling element by element

module _ {A : Type 0} (P : ℕ → A → Type 0) (d : A) where
  -- each element before place i is as P says of its place
  abbrev pub Filled : List A → ℕ → Type 0
  Filled l i = (k : ℕ) → k < i → P k (get_or l k d)

  pub filled_more : (l : List A) (i : ℕ) (x : A) → i < length l → Filled l i → P i x → Filled (set l i x) (i + 1)
  filled_more l i x below filled here =
      below_more (λ k. P k (get_or (set l i x) k d)) i
      (λ k h. rw (get_or-set_other l i k x d (λ e. omega (arith, e))) (filled k h))
      (rw (get_or-set_same l i x d below) here)

-- where none of some numbers is above 0
pub none_above : (n : ℕ) (ns : List ℕ) → any (ltb 0) (n ∷ ns) ≡ false → (0 ≡ n) × (any (ltb 0) ns ≡ false)
unfolding any
none_above n ns e =
    let tests = or_clear (ltb 0 n) (any (ltb 0) ns) e in
    (omega (arith, ltb-false 0 n tests.0), tests.1)
