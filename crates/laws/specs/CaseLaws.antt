-- Laws of numbered cases: the first that applies, and what an answer tells.
use Rattle.std.specs.Prelude.{◌++◌, ◌<◌, ◌∷◌, ◌≡◌, ◌≤◌}
use Rattle.laws.specs.Prelude.{Bool, List, [], ap, arith, cond, eq-eqb, eqb, eqb-true, false, false≢true, lt_irrefl, ltb, ltb-true, ne_eqb, refl, suc, true, zero, ℕ, ◌∙◌}
use Rattle.laws.specs.BoolLaws.{and_left, and_right}
use Rattle.laws.specs.Cases.{Case, when, first, place_in, ascends, case, Outcome, refused, fine, unless, outcome, keep_unless, leaves, positive}
use Rattle.laws.specs.Chains.{First, none, this, past}

-- ---- The first, step by step: what a chain of tests has found

pub first_is : {cs : List Case} {n : ℕ} → First cs n → n ≡ first cs
unfolding first
first_is none = refl
first_is (this e) = rw e
first_is (past e r) = rw e (first_is r)

-- what a first part finds, the whole list finds
pub first_front : (cs ds : List Case) → 0 < first cs → first (cs ++ ds) ≡ first cs
unfolding first
first_front [] ds h = absurd (lt_irrefl 0 h)
first_front (c ∷ cs) ds h = go c.applies (first_front cs ds) h
  where
    go :
        (a : Bool) → (0 < first cs → first (cs ++ ds) ≡ first cs) → 0 < cond a c.number (first cs) →
        cond a c.number (first (cs ++ ds)) ≡ cond a c.number (first cs)
    go true ih h = refl
    go false ih h = ih h

pub outcome_is : {A : Type 0} {cs : List Case} {n : ℕ} (a : A) → First cs n → unless n a ≡ outcome cs a
unfolding outcome
outcome_is a r = ap (λ (k : ℕ). unless k a) (first_is r)

-- a case that does not apply is passed over
pub outcome_past : {A : Type 0} (n : ℕ) (b : Bool) (cs : List Case) (a : A) → b ≡ false → outcome cs a ≡ outcome (when n b ∷ cs) a
unfolding outcome first
outcome_past n b cs a e = rw e

pub leaves_is : {A : Type 0} {cs : List Case} {n : ℕ} (old new : A) → First cs n → keep_unless n old new ≡ leaves cs old new
unfolding leaves
leaves_is old new r = ap (λ (k : ℕ). keep_unless k old new) (first_is r)

-- where old and new are the same, so is what is left
pub leaves_same : {A : Type 0} (cs : List Case) (a : A) → leaves cs a a ≡ a
unfolding leaves
leaves_same {A} cs a = go (first cs)
  where
    go : (n : ℕ) → keep_unless n a a ≡ a
    go zero = refl
    go (suc n) = refl

-- ---- What one answer says about another under the same cases

module _ {A B : Type 0} (cs : List Case) (a : A) where
  -- a refusal is the first case, whatever the value would have been, and leaves all as it was
  pub refusal_tells :
      (k : ℕ) → outcome cs a ≡ refused k →
      (first cs ≡ k) × ((b : B) → outcome cs b ≡ refused k) × ((old new : B) → leaves cs old new ≡ old)
  unfolding outcome leaves
  refusal_tells k = go (first cs)
    where
      go :
          (n : ℕ) → unless n a ≡ refused k →
          (n ≡ k) × ((b : B) → unless n b ≡ refused k) × ((old new : B) → keep_unless n old new ≡ old)
      go zero e = let z : ◌≡◌ {A = ℕ} 0 1 = cc in absurd (omega arith)
      go (suc n) e = let same : suc n ≡ k = cc in (same, λ b. ap refused same, λ old new. refl)

  -- an accepted call has no first case, gives its value and leaves the new
  pub acceptance_tells :
      (x : A) → outcome cs a ≡ fine x →
      (first cs ≡ 0) × (a ≡ x) × ((b : B) → outcome cs b ≡ fine b) × ((old new : B) → leaves cs old new ≡ new)
  unfolding outcome leaves
  acceptance_tells x = go (first cs)
    where
      go :
          (n : ℕ) → unless n a ≡ fine x →
          (n ≡ 0) × (a ≡ x) × ((b : B) → unless n b ≡ fine b) × ((old new : B) → keep_unless n old new ≡ new)
      go zero e = (refl, cc, λ b. refl, λ old new. refl)
      go (suc n) e = let z : ◌≡◌ {A = ℕ} 0 1 = cc in absurd (omega arith)

-- ---- Of cases in an order, the first in it that applies is the one given

module _ (order : List ℕ) where
  abbrev place : ℕ → ℕ
  place = place_in order

  module _ (k : ℕ) (c : Case) (cs : List Case) (up : ascends order k (c ∷ cs) ≡ true) where
    head_above : k < place c.number
    unfolding ascends
    head_above = ltb-true k (place c.number) (and_left (ltb k (place c.number)) (ascends order (place c.number) cs) up)

    rest_ascends : ascends order (place c.number) cs ≡ true
    unfolding ascends
    rest_ascends = and_right (ltb k (place c.number)) (ascends order (place c.number) cs) up

  -- a case that applies has its place above k
  case_above : (k n : ℕ) (cs : List Case) → ascends order k cs ≡ true → case n cs ≡ true → k < place n
  unfolding case
  case_above k n [] up e = absurd (false≢true e)
  case_above k n (c ∷ cs) up e =
      go (eqb c.number n) refl e (case_above (place c.number) n cs (rest_ascends k c cs up))
    where
      go :
          (b : Bool) → eqb c.number n ≡ b → cond b c.applies (case n cs) ≡ true →
          (case n cs ≡ true → place c.number < place n) → k < place n
      go true q h ih = omega (arith, head_above k c cs up, ap place (eqb-true c.number n q))
      go false q h ih = omega (arith, head_above k c cs up, ih h)

  -- no number whose case applies stands before the first
  pub first_earliest :
      (k n : ℕ) (cs : List Case) → ascends order k cs ≡ true → case n cs ≡ true →
      place_in order (first cs) ≤ place_in order n
  unfolding case first
  first_earliest k n [] up e = absurd (false≢true e)
  first_earliest k n (c ∷ cs) up e =
      go (eqb c.number n) refl c.applies e (first_earliest (place c.number) n cs (rest_ascends k c cs up))
    where
      go :
          (b : Bool) → eqb c.number n ≡ b → (a : Bool) → cond b a (case n cs) ≡ true →
          (case n cs ≡ true → place (first cs) ≤ place n) → place (cond a c.number (first cs)) ≤ place n
      go true q true h ih = omega (arith, ap place (eqb-true c.number n q))
      go true q false h ih = absurd (false≢true h)
      go false q true h ih = omega (arith, case_above (place c.number) n cs (rest_ascends k c cs up) h)
      go false q false h ih = ih h

  -- the first, where there is one, is the number of a case that applies
  pub first_applies :
      (k : ℕ) (cs : List Case) → ascends order k cs ≡ true → 0 < first cs → case (first cs) cs ≡ true
  unfolding case first
  first_applies k [] up h = absurd (lt_irrefl 0 h)
  first_applies k (c ∷ cs) up h = go c.applies refl h (first_applies (place c.number) cs (rest_ascends k c cs up))
    where
      go :
          (a : Bool) → c.applies ≡ a → 0 < cond a c.number (first cs) → (0 < first cs → case (first cs) cs ≡ true) →
          cond (eqb c.number (cond a c.number (first cs))) c.applies (case (cond a c.number (first cs)) cs) ≡ true
      go true q h ih = rw (eq-eqb c.number c.number refl) q
      go false q h ih =
          let later = case_above (place c.number) (first cs) cs (rest_ascends k c cs up) (ih h) in
          rw (ne_eqb c.number (first cs) (λ e. omega (arith, ap place e, later))) (ih h)

-- ---- Where numbers are positive, no first means that no case applies

module _ (c : Case) (cs : List Case) (some : positive (c ∷ cs) ≡ true) where
  head_positive : 0 < c.number
  head_positive = ltb-true 0 c.number (and_left (ltb 0 c.number) (positive cs) some)

  rest_positive : positive cs ≡ true
  rest_positive = and_right (ltb 0 c.number) (positive cs) some

-- where there is no first, no case applies
pub clear : (n : ℕ) (cs : List Case) → positive cs ≡ true → first cs ≡ 0 → case n cs ≡ false
unfolding case first
clear n [] some e = refl
clear n (c ∷ cs) some e = go c.applies (eqb c.number n) e (clear n cs (rest_positive c cs some))
  where
    go :
        (a b : Bool) → cond a c.number (first cs) ≡ 0 → (first cs ≡ 0 → case n cs ≡ false) → cond b a (case n cs) ≡ false
    go true b q ih = absurd (omega (arith, head_positive c cs some, q))
    go false true q ih = refl
    go false false q ih = ih q

-- what a first part does not find is what the rest finds
pub first_back : (cs ds : List Case) → positive cs ≡ true → first cs ≡ 0 → first (cs ++ ds) ≡ first ds
unfolding first
first_back [] ds some e = refl
first_back (c ∷ cs) ds some e = go c.applies e (first_back cs ds (rest_positive c cs some))
  where
    go :
        (a : Bool) → cond a c.number (first cs) ≡ 0 → (first cs ≡ 0 → first (cs ++ ds) ≡ first ds) →
        cond a c.number (first (cs ++ ds)) ≡ first ds
    go true q ih = absurd (omega (arith, head_positive c cs some, q))
    go false q ih = ih q

-- a refusal by a first part is the whole list's
pub outcome_front :
    {A : Type 0} (k : ℕ) (cs ds : List Case) (a : A) → refused k ≡ outcome cs a → refused k ≡ outcome (cs ++ ds) a
unfolding outcome
outcome_front {A} k cs ds a e = go (first cs) refl e
  where
    go : (n : ℕ) → first cs ≡ n → refused k ≡ unless n a → refused k ≡ unless (first (cs ++ ds)) a
    go zero q e = let z : ◌≡◌ {A = ℕ} 0 1 = cc in absurd (omega arith)
    go (suc n) q e = rw (first_front cs ds (omega arith), q) e

-- what a first part accepts is judged by the rest
pub outcome_back :
    {A : Type 0} (cs ds : List Case) (a x : A) (o : Outcome A) → positive cs ≡ true → fine x ≡ outcome cs a →
    o ≡ outcome ds x → o ≡ outcome (cs ++ ds) a
unfolding outcome
outcome_back {A} cs ds a x o some e r = go (first cs) refl e
  where
    go : (n : ℕ) → first cs ≡ n → fine x ≡ unless n a → o ≡ unless (first (cs ++ ds)) a
    go zero q e = let same : x ≡ a = cc in r ∙ rw (first_back cs ds some q, same)
    go (suc n) q e = let z : ◌≡◌ {A = ℕ} 0 1 = cc in absurd (omega arith)
