-- Laws of sets as numbers, for numbers of any size, so for every width at once.
use Rattle.std.specs.Prelude.{◌%◌, ◌&&◌, ◌+◌, ◌-◌, ◌/◌, ◌<◌, ◌^◌, ◌||◌, ◌↔◌, ◌≡◌, ◌≤◌}
use Rattle.laws.specs.Prelude.{Bool, add-sub_of_le, and_comm, and-eq-true_iff, and_le_l, and_le_r, and_mod, and-or_distrib_left, and_self, and_self_left, and_shr, and-true, ap, arith, bin_ind, bit_and, bit_or, bit_xor, div-eq_of_lt, eq-eqb, eqb, eqb-false, eqb-true, false, le-add_right, le-div_iff_mul-le, le-zero, lt-ltb, ltb, ltb-false, ltb-true, mod-lt, ne_eqb, not, not-true, or_add_and, or_comm, or-false, or_mod, or_self, or_shr, pow_pos, refl, shr-shr, suc, sym, true, true≢false, xor, xor_add_and, xor_mod, xor_shr, zero, zero-div, ℕ, ◌∙◌}
use Rattle.laws.specs.BoolLaws.{and_right, same}
use Rattle.laws.specs.Reads.{Reads}
use Rattle.laws.specs.ReadsLaws.{reading}
use Rattle.laws.specs.Sets.{member, meet, union, without, meets, inside, below}

-- ---- Membership

-- what holds of 0 and of 1 holds of a binary digit
digit : (P : ℕ → Type 0) → P 0 → P 1 → (n : ℕ) → P (n % 2)
digit P p q n = go (n % 2) (mod-lt n (omega arith))
  where
    go : (x : ℕ) → x < 2 → P x
    go zero h = p
    go (suc zero) h = q
    go (suc (suc x)) h = absurd (omega arith)

-- an operation that works on each binary digit apart works on members as it does on digits
module _ (op : ℕ → ℕ → ℕ) (f : Bool → Bool → Bool)
    (shr : (s t k : ℕ) → op s t / 2 ^ k ≡ op (s / 2 ^ k) (t / 2 ^ k))
    (low : (s t k : ℕ) → op s t % 2 ^ k ≡ op (s % 2 ^ k) (t % 2 ^ k))
    (none : eqb (op 0 0) 1 ≡ f false false) (right : eqb (op 0 1) 1 ≡ f false true)
    (left : eqb (op 1 0) 1 ≡ f true false) (both : eqb (op 1 1) 1 ≡ f true true) where
  member_op : (s t a : ℕ) → member (op s t) a ≡ f (member s a) (member t a)
  unfolding member
  member_op s t a =
      rw (shr s t a, low (s / 2 ^ a) (t / 2 ^ a) 1)
      (digit (λ x. eqb (op x (t / 2 ^ a % 2)) 1 ≡ f (eqb x 1) (eqb (t / 2 ^ a % 2) 1))
      (digit (λ y. eqb (op 0 y) 1 ≡ f false (eqb y 1)) none right (t / 2 ^ a))
      (digit (λ y. eqb (op 1 y) 1 ≡ f true (eqb y 1)) left both (t / 2 ^ a))
      (s / 2 ^ a))

pub member_meet : (s t a : ℕ) → member (meet s t) a ≡ (member s a && member t a)
unfolding meet
member_meet = member_op bit_and ◌&&◌ and_shr and_mod refl refl refl refl

pub member_union : (s t a : ℕ) → member (union s t) a ≡ (member s a || member t a)
unfolding union
member_union = member_op bit_or ◌||◌ or_shr or_mod refl refl refl refl

member_xor : (s t a : ℕ) → member (bit_xor s t) a ≡ xor (member s a) (member t a)
unfolding xor
member_xor = member_op bit_xor xor xor_shr xor_mod refl refl refl refl

pub member_empty : (a : ℕ) → member 0 a ≡ false
unfolding member
member_empty a = rw zero-div

-- a shift by r moves every member down by r
member_shift : (s r a : ℕ) → member (s / 2 ^ r) a ≡ member s (r + a)
unfolding member
member_shift s r a = rw shr-shr

-- a positive number has a member
pub some_member : (s : ℕ) → 0 < s → (a : ℕ) × (member s a ≡ true)
unfolding member
some_member = bin_ind (λ (n : ℕ). 0 < n → (a : ℕ) × (member n a ≡ true)) (λ h. absurd (omega arith)) step
  where
    step : (n : ℕ) → (0 < n / 2 → (a : ℕ) × (member (n / 2) a ≡ true)) → 0 < n → (a : ℕ) × (member n a ≡ true)
    step n ih h = go (member n 0) refl
      where
        go : (b : Bool) → member n 0 ≡ b → (a : ℕ) × (member n a ≡ true)
        go true e = (0, e)
        go false e =
            let r = ih (omega (arith, eqb-false (n / 2 ^ 0 % 2) 1 e)) in
            (1 + r.0, sym (member_shift n 1 r.0) ∙ r.1)

-- 0 is the set without members
pub empty : (s : ℕ) → (s ≡ 0) ↔ ((a : ℕ) → member s a ≡ false)
empty s = (λ e a. rw e (member_empty a), none s)
  where
    none : (n : ℕ) → ((a : ℕ) → member n a ≡ false) → n ≡ 0
    none zero h = refl
    none (suc n) h = let r = some_member (suc n) (omega arith) in absurd (true≢false (sym r.1 ∙ h r.0))

xor_self : (x : Bool) → xor x x ≡ false
unfolding xor
xor_self true = refl
xor_self false = refl

-- sets with the same members are equal
pub ext : {s t : ℕ} → ((a : ℕ) → member s a ≡ member t a) → s ≡ t
ext {s} {t} h =
    let none : bit_xor s t ≡ 0 = (empty (bit_xor s t)).1 (λ a. rw (member_xor, h) (xor_self (member t a))) in
    omega (arith, xor_add_and s t, and_le_l s t, and_le_r s t)

xor_and : (x y : Bool) → xor x (x && y) ≡ (x && not y)
unfolding xor
xor_and true true = refl
xor_and true false = refl
xor_and false y = refl

-- what is taken away is part of s, so the difference of the numbers is that of their digits
without_xor : (s t : ℕ) → without s t ≡ bit_xor s (meet s t)
unfolding without meet
without_xor s t =
    let part : meet s (meet s t) ≡ meet s t = ext (λ a. simp member_meet (and_self_left (member s a) (member t a))) in
    omega (arith, xor_add_and s (meet s t), part)

pub member_without : (s t a : ℕ) → member (without s t) a ≡ (member s a && not (member t a))
member_without s t a = rw (without_xor, member_xor, member_meet) (xor_and (member s a) (member t a))

-- ---- Readings

-- where two tests say what a set's members are, some member passes both
some_of : (s : ℕ) (p q : ℕ → Bool) → ((a : ℕ) → member s a ≡ (p a && q a)) → 0 < s → (a : ℕ) × (p a ≡ true) × (q a ≡ true)
some_of s p q told h =
    let r = some_member s h in
    let e = (and-eq-true_iff (p r.0) (q r.0)).0 (sym (told r.0) ∙ r.1) in
    (r.0, e.0, e.1)

pub inside_reads :
    (s t : ℕ) →
    Reads (inside s t)
    ((a : ℕ) → member s a ≡ true → member t a ≡ true)
    ((a : ℕ) × (member s a ≡ true) × (member t a ≡ false))
unfolding inside without meet
inside_reads s t =
    reading (inside s t)
    (λ e a m. cc (member_meet s t a, eqb-true (meet s t) s e))
    other
    (λ h f. true≢false (sym (h f.0 f.1) ∙ f.2))
  where
    other : inside s t ≡ false → (a : ℕ) × (member s a ≡ true) × (member t a ≡ false)
    other e =
        let more : 0 < without s t = omega (arith, and_le_l s t, eqb-false (meet s t) s e) in
        let r = some_of (without s t) (member s) (λ a. not (member t a)) (member_without s t) more in
        (r.0, r.1, not-true (member t r.0) r.2)

pub meets_reads :
    (s t : ℕ) →
    Reads (meets s t)
    ((a : ℕ) × (member s a ≡ true) × (member t a ≡ true))
    ((a : ℕ) → member s a ≡ true → member t a ≡ false)
unfolding meets
meets_reads s t =
    reading (meets s t)
    (λ e. some_of (meet s t) (member s) (member t) (member_meet s t) (ltb-true 0 (meet s t) e))
    (λ e a m. cc (member_meet s t a, member_empty a, le-zero (ltb-false 0 (meet s t) e)))
    (λ h f. true≢false (sym h.2 ∙ f h.0 h.1))

-- to be below r is to have no bit from r on
pub below_shift : (s r : ℕ) → below s r ≡ eqb (s / 2 ^ r) 0
unfolding below
below_shift s r = go (below s r) refl
  where
    go : (b : Bool) → below s r ≡ b → b ≡ eqb (s / 2 ^ r) 0
    go true e = rw (div-eq_of_lt (ltb-true s (2 ^ r) e))
    go false e =
        let more : 1 ≤ s / 2 ^ r = (le-div_iff_mul-le (pow_pos r)).1 (omega (arith, ltb-false s (2 ^ r) e)) in
        sym (ne_eqb (s / 2 ^ r) 0 (omega arith))

pub below_reads :
    (s r : ℕ) →
    Reads (below s r)
    ((a : ℕ) → member s a ≡ true → a < r)
    ((a : ℕ) × (member s a ≡ true) × (r ≤ a))
below_reads s r = reading (below s r) each other (λ h f. omega (arith, h f.0 f.1, f.2))
  where
    each : below s r ≡ true → (a : ℕ) → member s a ≡ true → a < r
    each e a m =
        let none : s / 2 ^ r ≡ 0 = eqb-true (s / 2 ^ r) 0 (rw below_shift at e) in
        let low : ¬ (r ≤ a) = λ h. true≢false (cc (add-sub_of_le h, member_shift s r (a - r), member_empty (a - r))) in
        omega arith

    other : below s r ≡ false → (a : ℕ) × (member s a ≡ true) × (r ≤ a)
    other e =
        let p = some_member (s / 2 ^ r) (omega (arith, eqb-false (s / 2 ^ r) 0 (rw below_shift at e))) in
        (r + p.0, sym (member_shift s r p.0) ∙ p.1, le-add_right r p.0)

-- ---- Algebra

-- membership in whatever the operations make
pub ruleset members = (member_meet, member_union, member_without, member_empty)

pub union_comm : (s t : ℕ) → union s t ≡ union t s
union_comm s t = ext (λ a. simp members (or_comm (member s a) (member t a)))

pub union_self : (s : ℕ) → union s s ≡ s
union_self s = ext (λ a. simp members (or_self (member s a)))

pub union_empty : (s : ℕ) → union s 0 ≡ s
union_empty s = ext (λ a. simp (members, or-false))

pub meet_comm : (s t : ℕ) → meet s t ≡ meet t s
meet_comm s t = ext (λ a. simp members (and_comm (member s a) (member t a)))

pub meet_self : (s : ℕ) → meet s s ≡ s
meet_self s = ext (λ a. simp members (and_self (member s a)))

pub meet_union : (s t u : ℕ) → meet s (union t u) ≡ union (meet s t) (meet s u)
meet_union s t u = ext (λ a. simp members (and-or_distrib_left (member s a) (member t a) (member u a)))

pub meets_comm : (s t : ℕ) → meets s t ≡ meets t s
unfolding meets
meets_comm s t = ap (ltb 0) (meet_comm s t)

-- a union has a member where one of the two has
some_union : (s t : ℕ) → ltb 0 (union s t) ≡ (ltb 0 s || ltb 0 t)
unfolding union
some_union zero t = refl
some_union (suc s) t =
    rw (lt-ltb 0 (suc s) (omega arith))
    (lt-ltb 0 (union (suc s) t) (omega (arith, or_add_and (suc s) t, and_le_r (suc s) t)))

-- a union is empty where both are
pub union_none : (s t : ℕ) → eqb (union s t) 0 ≡ (eqb s 0 && eqb t 0)
unfolding union
union_none zero t = refl
union_none (suc s) t =
    rw (ne_eqb (suc s) 0 (omega arith))
    (ne_eqb (union (suc s) t) 0 (omega (arith, or_add_and (suc s) t, and_le_r (suc s) t)))

pub meets_union : (s t u : ℕ) → meets s (union t u) ≡ (meets s t || meets s u)
unfolding meets
meets_union s t u = rw meet_union (some_union (meet s t) (meet s u))

pub inside_refl : (s : ℕ) → inside s s ≡ true
unfolding inside
inside_refl s = eq-eqb (meet s s) s (meet_self s)

pub inside_trans : (s t u : ℕ) → inside s t ≡ true → inside t u ≡ true → inside s u ≡ true
inside_trans s t u p q = (inside_reads s u).holds.1 (λ a m. (inside_reads t u).holds.0 q a ((inside_reads s t).holds.0 p a m))

pub inside_left : (s t : ℕ) → inside s (union s t) ≡ true
inside_left s t = (inside_reads s (union s t)).holds.1 (λ a m. simp (member_union, m))

pub inside_union : (s t u : ℕ) → (inside (union s t) u ≡ true) ↔ ((inside s u ≡ true) × (inside t u ≡ true))
unfolding inside
inside_union s t u = (
  λ e. (inside_trans s (union s t) u (inside_left s t) e, inside_trans t (union s t) u (rw union_comm (inside_left t s)) e),
  λ p.
      eq-eqb (meet (union s t) u) (union s t)
      (cc (meet_comm (union s t) u, meet_union u s t, meet_comm u s, meet_comm u t, eqb-true (meet s u) s p.0, eqb-true (meet t u) t p.1)),
)

-- the same as a test
pub inside_both : (s t u : ℕ) → inside (union s t) u ≡ (inside s u && inside t u)
inside_both s t u =
    let both = and-eq-true_iff (inside s u) (inside t u) in
    same (inside (union s t) u) (inside s u && inside t u)
    (λ e. both.1 ((inside_union s t u).0 e)) (λ e. (inside_union s t u).1 (both.0 e))

pub without_inside : (s t : ℕ) → inside (without s t) s ≡ true
without_inside s t =
    (inside_reads (without s t) s).holds.1
    (λ a m. ((and-eq-true_iff (member s a) (not (member t a))).0 (rw member_without at m)).0)

-- the set without members lies inside any, and meets none
pub inside_empty : (s : ℕ) → inside 0 s ≡ true
inside_empty s = (inside_reads 0 s).holds.1 (λ a m. absurd (true≢false (sym m ∙ member_empty a)))

pub meets_empty : (s : ℕ) → meets s 0 ≡ false
meets_empty s = (meets_reads s 0).fails.1 (λ a m. member_empty a)

-- a part of what does not meet a set does not meet it
pub meets_inside : (s t u : ℕ) → inside s t ≡ true → meets t u ≡ false → meets s u ≡ false
meets_inside s t u p q = (meets_reads s u).fails.1 (λ a m. (meets_reads t u).fails.0 q a ((inside_reads s t).holds.0 p a m))

-- ---- What is left of a set that loses members

-- a part of a set is not a greater number
pub inside_le : (s t : ℕ) → inside s t ≡ true → s ≤ t
unfolding inside meet
inside_le s t part = omega (arith, eqb-true (meet s t) s part, and_le_r s t)

-- a part stays one where both lose the same
pub inside_without : (s t u : ℕ) → inside s t ≡ true → inside (without s u) (without t u) ≡ true
inside_without s t u part =
    (inside_reads (without s u) (without t u)).holds.1
    (λ a m.
    let both = (and-eq-true_iff (member s a) (not (member u a))).0 (rw member_without at m) in
    rw member_without
    ((and-eq-true_iff (member t a) (not (member u a))).1 ((inside_reads s t).holds.0 part a both.0, both.1)))

-- what is left of a set meets another only if the whole did
pub meets_without : (d s x : ℕ) → meets (without d s) x ≡ true → meets d x ≡ true
meets_without d s x shared = go (meets d x) refl
  where
    go : (b : Bool) → meets d x ≡ b → b ≡ true
    go true e = refl
    go false e = sym (meets_inside (without d s) d x (without_inside d s) e) ∙ shared

-- a set that loses nothing is left whole
pub without_none : (s : ℕ) → without s 0 ≡ s
without_none s = ext (λ a. simp (member_without, member_empty, and-true))

-- what two losses leave is what both at once leave
pub without_twice : (s t u : ℕ) → without (without s t) u ≡ without s (union t u)
without_twice s t u = ext (λ a. simp (member_without, member_union) (both (member s a) (member t a) (member u a)))
  where
    both : (x y z : Bool) → (x && not y && not z) ≡ (x && not (y || z))
    both true true z = refl
    both true false z = refl
    both false y z = refl

-- nothing that was lost is left
pub without_lost : (s t : ℕ) → meets (without s t) t ≡ false
without_lost s t =
    (meets_reads (without s t) t).fails.1
    (λ a m. not-true (member t a) (and_right (member s a) (not (member t a)) (rw member_without at m)))

-- sets that share nothing share nothing when they lose
pub without_apart : (s t x y : ℕ) → meets s t ≡ false → meets (without s x) (without t y) ≡ false
without_apart s t x y apart =
    let less = meets_inside (without s x) s t (without_inside s x) apart in
    meets_comm (without s x) (without t y)
    ∙ meets_inside (without t y) t (without s x) (without_inside t y) (meets_comm t (without s x) ∙ less)
