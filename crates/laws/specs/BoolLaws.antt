-- Laws of truth values: as numbers, in conjunctions, in choices.
use Rattle.std.specs.Prelude.{◌&&◌, ◌||◌, ◌≡◌, ◌≤◌}
use Rattle.laws.specs.Prelude.{Bool, and_comm, ap, arith, cond, false, le-leb, leb, lt-leb, ltb, ltb-false, ltb-true, not, refl, sym, true, true≢false, ℕ, ◌∙◌}
use Rattle.laws.specs.Bools.{bit, implies}

pub bit_le : (b : Bool) → bit b ≤ 1
bit_le true = omega arith
bit_le false = omega arith

pub and_left : (a b : Bool) → (a && b) ≡ true → a ≡ true
and_left true b e = refl
and_left false b e = e

pub and_right : (a b : Bool) → (a && b) ≡ true → b ≡ true
and_right a b e = and_left b a (and_comm b a ∙ e)

-- tests that hold together are equal
pub same : (a b : Bool) → (a ≡ true → b ≡ true) → (b ≡ true → a ≡ true) → a ≡ b
same true b f g = sym (f refl)
same false true f g = g refl
same false false f g = refl

pub not_ltb : (a b : ℕ) → not (ltb a b) ≡ leb b a
not_ltb a b = go (ltb a b) refl
  where
    go : (t : Bool) → ltb a b ≡ t → not t ≡ leb b a
    go true e = sym (lt-leb b a (ltb-true a b e))
    go false e = sym (le-leb b a (ltb-false a b e))

-- of two things for which g is the same, either may be chosen
pub either : {A B : Type 0} (g : A → B) (b : Bool) (x y : A) → g y ≡ g x → g (cond b x y) ≡ g x
either g true x y e = refl
either g false x y e = e

-- ---- If a then b

module _ (a b : Bool) where
  pub implied : implies a b ≡ true → a ≡ true → b ≡ true
  implied e h = sym (ap (λ (a : Bool). implies a b) h) ∙ e

  pub implying : (a ≡ true → b ≡ true) → implies a b ≡ true
  implying h = go a h
    where
      go : (a : Bool) → (a ≡ true → b ≡ true) → implies a b ≡ true
      go true h = h refl
      go false h = refl

-- read the other way round
pub denied : (a b : Bool) → implies a b ≡ true → b ≡ false → a ≡ false
denied true b e h = sym e ∙ h
denied false b e h = refl

pub denying : (a b : Bool) → (b ≡ false → a ≡ false) → implies a b ≡ true
denying true true h = refl
denying true false h = sym (h refl)
denying false b h = refl

-- where neither of two holds
pub or_clear : (a b : Bool) → (a || b) ≡ false → (a ≡ false) × (b ≡ false)
or_clear true b e = absurd (true≢false e)
or_clear false b e = (refl, e)
