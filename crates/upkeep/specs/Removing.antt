-- Laws of a list without one of its entries.
use Rattle.std.specs.Prelude.{◌+◌, ◌++◌, ◌-◌, ◌<◌, ◌∷◌, ◌≡◌, ◌≢◌, ◌≤◌}
use Rattle.std.specs.List.{copy_within, remove}
use Rattle.std.proofs.lemmas.List.{length-drop, drop-take, take-take}
use Rattle.std.proofs.lemmas.List.Edits.{take-paste}
use Rattle.upkeep.specs.Prelude.{◌∙◌, add-one, List, [], ap, arith, besides, drop, eq-eqb, get_or, keep, le_of_suc-le-suc, length, ne_eqb, not-suc-le-zero, refl, suc, sym, take, zero, zero-lt-suc, ℕ}

-- with those behind a place copied one place forward, the list but for its last entry is the list without that place
pub removed_copied :
    (l : List ℕ) (p n : ℕ) → p < n → n ≤ length l → take (n - 1) (copy_within l (p + 1) n p) ≡ remove (take n l) p
removed_copied l p n h inside =
    let m = n - (p + 1) in
    let first : n - 1 ≡ p + m = omega arith in
    let all : n ≡ suc p + m = omega arith in
    rw first (take-paste l p (drop (p + 1) l) m (omega arith) (omega (arith, length-drop (p + 1) l)))
    ∙ (λ i. sym (take-take p n l (omega arith)) i ++ rest m all i)
  where
    rest : (m : ℕ) → n ≡ suc p + m → take m (drop (p + 1) l) ≡ drop (suc p) (take n l)
    rest m e = rw (e, add-one p) (sym (drop-take (suc p) m l))

-- where it is the last, the list is the others and it
pub removed_last : (l m : List ℕ) (k : ℕ) → length m < length l → remove l (length m) ≡ m → get_or l (length m) 0 ≡ k → l ≡ m ++ k ∷ []
removed_last [] m k h e at = absurd (not-suc-le-zero h)
removed_last (x ∷ l) [] k h e at = λ i. at i ∷ e i
removed_last (x ∷ l) (y ∷ m) k h e at = λ i. heads i ∷ removed_last l m k (le_of_suc-le-suc h) tails at i
  where
    heads : x ≡ y
    heads = ap (λ (s : List ℕ). get_or s 0 0) e

    tails : remove l (length m) ≡ m
    tails = ap (λ (s : List ℕ). drop 1 s) e

-- a list that has job k nowhere keeps all of its jobs
keep_all : (k : ℕ) (l : List ℕ) → ((i : ℕ) → i < length l → get_or l i 0 ≢ k) → keep (besides k) l ≡ l
unfolding keep
keep_all k [] other = refl
keep_all k (j ∷ l) other =
    rw (ne_eqb k j (λ e. other 0 (zero-lt-suc (length l)) (sym e)))
    (ap (λ (m : List ℕ). j ∷ m) (keep_all k l (λ i h. other (suc i) (omega arith))))

-- where job k stands at one place alone, the list without that place is the list without k
pub removed_besides :
    (l : List ℕ) (p k : ℕ) → p < length l → get_or l p 0 ≡ k → ((i : ℕ) → i < length l → i ≢ p → get_or l i 0 ≢ k) →
    remove l p ≡ keep (besides k) l
unfolding keep
removed_besides [] p k h here other = absurd (not-suc-le-zero h)
removed_besides (j ∷ l) zero k h here other =
    rw (eq-eqb k j (sym here)) (sym (keep_all k l (λ i within. other (suc i) (omega arith) (λ e. omega (arith, e)))))
removed_besides (j ∷ l) (suc p) k h here other =
    rw (ne_eqb k j (λ e. other 0 (zero-lt-suc (length l)) (λ z. omega (arith, z)) (sym e)))
    (ap (λ (m : List ℕ). j ∷ m)
    (removed_besides l p k (le_of_suc-le-suc h) here (λ i within ne. other (suc i) (omega arith) (λ e. ne (omega (arith, e))))))
