-- No two refusals share a number, and what the cases of named refusals tell.
use Rattle.std.specs.Prelude.{◌<◌, ◌||◌, ◌∷◌, ◌≡◌}
use Rattle.event.specs.Prelude.{AlreadyHeld, AlreadyLive, BadStart, BitSet, Bool, ClockGoneBack, ClockLeap, EmptySet, List, NoSuchJob, NoSuchResource, NoToken, NotDeclared, NotHeld, NotLive, Refusal, ShortList, StartOutOfPlace, StillWaiting, TimeSpent, TurnsSpent, UnknownKind, UnknownVersion, UnsoundTable, WrongLength, WrongSize, [], ap, arith, cond, eqb, eqb-true, false, false≢true, first, lt-ltb, positive, refl, suc, sym, true, zero, ℕ, ◌∙◌}
use Rattle.event.specs.RefusalLaws.{refusal_of, refusals}
use Rattle.event.specs.Refusals.{among, cases_by, number_of}

pub refusal_of_number_of : (r : Refusal) → refusal_of (number_of r) ≡ r
unfolding refusals refusal_of
refusal_of_number_of BadStart = refl
refusal_of_number_of ShortList = refl
refusal_of_number_of UnsoundTable = refl
refusal_of_number_of NoSuchJob = refl
refusal_of_number_of ClockGoneBack = refl
refusal_of_number_of TimeSpent = refl
refusal_of_number_of AlreadyLive = refl
refusal_of_number_of NotLive = refl
refusal_of_number_of NoToken = refl
refusal_of_number_of StillWaiting = refl
refusal_of_number_of EmptySet = refl
refusal_of_number_of NoSuchResource = refl
refusal_of_number_of NotDeclared = refl
refusal_of_number_of AlreadyHeld = refl
refusal_of_number_of NotHeld = refl
refusal_of_number_of TurnsSpent = refl
refusal_of_number_of WrongLength = refl
refusal_of_number_of UnknownKind = refl
refusal_of_number_of BitSet = refl
refusal_of_number_of StartOutOfPlace = refl
refusal_of_number_of WrongSize = refl
refusal_of_number_of UnknownVersion = refl
refusal_of_number_of ClockLeap = refl

-- no two refusals share a number
pub number_of_tells : (r s : Refusal) → number_of r ≡ number_of s → r ≡ s
number_of_tells r s e = sym (refusal_of_number_of r) ∙ ap refusal_of e ∙ refusal_of_number_of s

-- ---- Cases by name

-- every number is positive: 0 would be that of the refusal numbered 1
pub number_positive : (r : Refusal) → 0 < number_of r
unfolding refusals refusal_of
number_positive r = go (number_of r) refl
  where
    go : (n : ℕ) → number_of r ≡ n → 0 < n
    go zero e =
        let is : r ≡ BadStart = sym (refusal_of_number_of r) ∙ ap refusal_of e in
        let one : number_of r ≡ 1 = ap number_of is in
        absurd (omega (arith, one, e))
    go (suc n) e = omega arith

module _ (f : Refusal → Bool) where
  pub cases_positive : (rs : List Refusal) → positive (cases_by f rs) ≡ true
  cases_positive [] = refl
  cases_positive (r ∷ rs) = rw (lt-ltb 0 (number_of r) (number_positive r)) (cases_positive rs)

  -- the first number is that of a refusal which applies
  pub first_named : (rs : List Refusal) (r : Refusal) → first (cases_by f rs) ≡ number_of r → f r ≡ true
  unfolding first
  first_named [] r e = absurd (omega (arith, number_positive r, e))
  first_named (x ∷ rs) r e = go (f x) refl e (first_named rs r)
    where
      go :
          (b : Bool) → f x ≡ b → cond b (number_of x) (first (cases_by f rs)) ≡ number_of r →
          (first (cases_by f rs) ≡ number_of r → f r ≡ true) → f r ≡ true
      go true q e more = ap f (sym (number_of_tells x r e)) ∙ q
      go false q e more = more e

  -- where there is no first, none of the refusals applies
  pub clear_named : (rs : List Refusal) (r : Refusal) → among r rs ≡ true → first (cases_by f rs) ≡ 0 → f r ≡ false
  unfolding first
  clear_named [] r in-it e = absurd (false≢true in-it)
  clear_named (x ∷ rs) r in-it e = go (f x) refl (eqb (number_of x) (number_of r)) refl in-it e (clear_named rs r)
    where
      go :
          (b : Bool) → f x ≡ b → (c : Bool) → eqb (number_of x) (number_of r) ≡ c → (c || among r rs) ≡ true →
          cond b (number_of x) (first (cases_by f rs)) ≡ 0 →
          (among r rs ≡ true → first (cases_by f rs) ≡ 0 → f r ≡ false) → f r ≡ false
      go true q c p in-it e more = absurd (omega (arith, number_positive x, e))
      go false q true p in-it e more = ap f (sym (number_of_tells x r (eqb-true (number_of x) (number_of r) p))) ∙ q
      go false q false p in-it e more = more in-it e

  -- where one of them applies there is a first
  pub some_first : (rs : List Refusal) (r : Refusal) → among r rs ≡ true → f r ≡ true → 0 < first (cases_by f rs)
  some_first rs r in-it e = go (first (cases_by f rs)) refl
    where
      go : (k : ℕ) → first (cases_by f rs) ≡ k → 0 < k
      go zero q = absurd (false≢true (sym (clear_named rs r in-it q) ∙ e))
      go (suc k) q = omega arith
