-- Counting along a list.
use Rattle.std.specs.Prelude.{◌+◌, ◌<◌, ◌≡◌, ◌≤◌}
use Rattle.questions.specs.Prelude.{Bool, List, Passed, ◌∙◌, add-zero, ap, bit, count, false, get_or, length, passed_all, passed_le, passed_more, passed_none, subst, true, ℕ}

-- of the first i jobs of a list n pass the test
pub record Counting (f : ℕ → Bool) (l : List ℕ) (n i : ℕ) : Type 0 where
  pub passed : Passed f l i n

pub counting_start : (f : ℕ → Bool) (l : List ℕ) → Counting f l 0 0
counting_start f l = record { passed = passed_none f l }

module _ {f : ℕ → Bool} {l : List ℕ} {n i : ℕ} (w : Counting f l n i) where
  pub counting_fits : n ≤ length l
  counting_fits = passed_le f l i n w.passed

  module _ (j : ℕ) (within : i < length l) (here : get_or l i 0 ≡ j) where
    more : (b : Bool) → f j ≡ b → Passed f l (i + 1) (n + bit b)
    more b e = subst (λ (b : Bool). Passed f l (i + 1) (n + bit b)) (ap f here ∙ e) (passed_more f l i n 0 within w.passed)

    pub counting_one : f j ≡ true → Counting f l (n + 1) (i + 1)
    counting_one e = record { passed = more true e }

    pub counting_none : f j ≡ false → Counting f l n (i + 1)
    counting_none e = record { passed = subst (Passed f l (i + 1)) (add-zero n) (more false e) }

  pub counting_end : length l ≤ i → n ≡ count f l
  counting_end all = passed_all f l i n all w.passed
