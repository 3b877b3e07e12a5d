-- Jobs listed at the front of a lent list, one by one along a line.
use Rattle.std.specs.Prelude.{◌++◌, ◌+◌, ◌<◌, ◌∷◌, ◌≡◌, ◌≤◌}
use Rattle.sweep.specs.Prelude.{Bool, List, Listed, [], ◌∙◌, add-one, ap, append-nil, append_snoc, arith, cond, drop, drop-cons, drop-drop, drop-set-lt, false, get_or, keep, length, length-set, length-take-le, over, refl, set, sym, take, take-append-drop, take-suc-set, true, ℕ}

-- of the first i jobs of a list n pass the test, and these stand at the front of a lent list
pub record Writing (f : ℕ → Bool) (l before out : List ℕ) (n i : ℕ) : Type 0 where
  pub fewer : n ≤ i
  pub long : length out ≡ length before
  pub front : take n out ++ keep f (drop i l) ≡ keep f l
  pub back : drop n out ≡ drop n before

pub writing_start : (f : ℕ → Bool) (l before : List ℕ) → Writing f l before before 0 0
writing_start f l before = record { fewer = omega arith; long = refl; front = refl; back = refl }

module _ {f : ℕ → Bool} {l before out : List ℕ} {n i : ℕ} (w : Writing f l before out n i) where
  module _ (j : ℕ) (within : i < length l) (here : get_or l i 0 ≡ j) where
    rest : drop i l ≡ j ∷ drop (i + 1) l
    rest = drop-cons l i 0 within ∙ (λ k. here k ∷ drop (sym (add-one i) k) l)

    -- one is passed over
    pub writing_passed : f j ≡ false → Writing f l before out n (i + 1)
    unfolding keep
    writing_passed e =
        record {
          fewer = omega (arith, w.fewer);
          long = w.long;
          front =
              sym (ap (λ (l : List ℕ). take n out ++ keep f l) rest ∙ ap (λ (b : Bool). take n out ++ cond b (j ∷ keep f (drop (i + 1) l)) (keep f (drop (i + 1) l))) e)
              ∙ w.front;
          back = w.back;
        }

    -- one is written
    pub writing_written : f j ≡ true → n < length out → Writing f l before (set out n j) (n + 1) (i + 1)
    unfolding keep
    writing_written e room =
        record {
          fewer = omega (arith, w.fewer);
          long = length-set out n j ∙ w.long;
          front = rw (add-one, take-suc-set out n j room, append_snoc)
              (sym (ap (λ (l : List ℕ). take n out ++ keep f l) rest ∙ ap (λ (b : Bool). take n out ++ cond b (j ∷ keep f (drop (i + 1) l)) (keep f (drop (i + 1) l))) e)
              ∙ w.front);
          back =
              drop-set-lt (n + 1) out n j (omega arith) ∙ sym (drop-drop 1 n out) ∙ ap (drop 1) w.back
              ∙ drop-drop 1 n before;
        }

  -- where nothing more is to be written, all is
  pub writing_done : keep f (drop i l) ≡ [] → n ≤ length out → Listed (keep f l) before n out
  unfolding over
  writing_done none fits =
      let xs = keep f l in
      let whole : take n out ≡ xs = sym (append-nil (take n out)) ∙ ap (λ (l : List ℕ). take n out ++ l) (sym none) ∙ w.front in
      let told : n ≡ length xs = sym (length-take-le n out fits) ∙ ap length whole in
      record {
        told = told;
        left = sym (take-append-drop n out) ∙ (λ k. whole k ++ w.back k) ∙ ap (λ (m : ℕ). xs ++ drop m before) told;
      }
