-- What counts say of single elements, and how they compare. An element past the end reads as the default d.
use Rattle.std.specs.Prelude.{◌&&◌, ◌+◌, ◌<◌, ◌∷◌, ◌≡◌, ◌≤◌}
use Rattle.laws.specs.Prelude.{Bool, List, [], and-true, ap, arith, false, false≢true, fun_ext, get_or, le_antisymm, length, lt_irrefl, refl, suc, sym, true, zero, zero-add, ℕ, ◌∙◌}
use Rattle.laws.specs.Bools.{bit}
use Rattle.laws.specs.BoolLaws.{and_left, and_right}
use Rattle.laws.specs.Lists.{all, count}

module _ {A : Type 0} (f : A → Bool) (d : A) where
  -- where the count is above 0, some element passes
  pub count_some : (l : List A) → 0 < count f l → (k : ℕ) × (f (get_or l k d) ≡ true)
  unfolding count
  count_some [] h = absurd (lt_irrefl 0 h)
  count_some (x ∷ l) h = go (f x) refl h (count_some l)
    where
      go :
          (b : Bool) → f x ≡ b → 0 < bit b + count f l → (0 < count f l → (k : ℕ) × (f (get_or l k d) ≡ true)) →
          (k : ℕ) × (f (get_or (x ∷ l) k d) ≡ true)
      go true e h more = (0, e)
      go false e h more = let p = more (omega arith) in (suc p.0, p.1)

  -- where an element passes, the count is above 0
  pub count_at : f d ≡ false → (l : List A) (k : ℕ) → f (get_or l k d) ≡ true → 0 < count f l
  unfolding count
  count_at out [] k e = absurd (false≢true (sym out ∙ e))
  count_at out (x ∷ l) zero e = rw e (omega arith)
  count_at out (x ∷ l) (suc k) e = omega (arith, count_at out l k e)

  -- where f passes an element of l' wherever g passes that of l, it counts at least as many
  pub count_mono :
      f d ≡ false → (g : A → Bool) (l l' : List A) → ((k : ℕ) → g (get_or l k d) ≡ true → f (get_or l' k d) ≡ true) →
      count g l ≤ count f l'
  unfolding count
  count_mono out g [] l' each = omega arith
  count_mono out g (x ∷ l) [] each = go (g x) (each 0) (count_mono out g l [] (λ k. each (suc k)))
    where
      go : (a : Bool) → (a ≡ true → f d ≡ true) → count g l ≤ 0 → bit a + count g l ≤ 0
      go true e more = absurd (false≢true (sym out ∙ e refl))
      go false e more = omega arith
  count_mono out g (x ∷ l) (y ∷ l') each = go (g x) (f y) (each 0) (count_mono out g l l' (λ k. each (suc k)))
    where
      go : (a b : Bool) → (a ≡ true → b ≡ true) → count g l ≤ count f l' → bit a + count g l ≤ bit b + count f l'
      go true b e more = rw (e refl) (omega arith)
      go false b e more = omega arith

  pub count_same :
      f d ≡ false → (l l' : List A) → ((k : ℕ) → f (get_or l k d) ≡ f (get_or l' k d)) → count f l ≡ count f l'
  count_same out l l' each =
      le_antisymm (count_mono out f l l' (λ k e. sym (each k) ∙ e)) (count_mono out f l' l (λ k e. each k ∙ e))

  -- all pass exactly if the element at each place does
  pub all_each : f d ≡ true → (l : List A) → all f l ≡ true → (k : ℕ) → f (get_or l k d) ≡ true
  unfolding all
  all_each out [] e k = out
  all_each out (x ∷ l) e zero = and_left (f x) (all f l) e
  all_each out (x ∷ l) e (suc k) = all_each out l (and_right (f x) (all f l) e) k

  pub each_all : (l : List A) → ((k : ℕ) → f (get_or l k d) ≡ true) → all f l ≡ true
  unfolding all
  each_all [] each = refl
  each_all (x ∷ l) each = rw (each 0) (each_all l (λ k. each (suc k)))

-- where each element counts for h as much as for f and g together, so does the list
pub count_sum :
    {A : Type 0} (f g h : A → Bool) → ((x : A) → bit (h x) ≡ bit (f x) + bit (g x)) → (l : List A) →
    count h l ≡ count f l + count g l
unfolding count
count_sum f g h each [] = refl
count_sum f g h each (x ∷ l) = omega (arith, each x, count_sum f g h each l)

-- ---- Tests that say little

module _ {A : Type 0} where
  pub count_every : (l : List A) → count (λ x. true) l ≡ length l
  unfolding count
  count_every [] = refl
  count_every (x ∷ l) = omega (arith, count_every l)

  pub count_never : (l : List A) → count (λ x. false) l ≡ 0
  unfolding count
  count_never [] = refl
  count_never (x ∷ l) = rw zero-add (count_never l)

  pub count_and_true : (f : A → Bool) (l : List A) → count (λ x. f x && true) l ≡ count f l
  count_and_true f l = ap (λ (g : A → Bool). count g l) (fun_ext (λ x. and-true (f x)))
