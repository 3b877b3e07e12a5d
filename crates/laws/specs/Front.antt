-- Lists of which a part was written and the rest is kept.
use Rattle.std.specs.Prelude.{ℕ, ◌+◌, ◌≤◌, List, ◌++◌, ◌≡◌, drop, length, take}

module _ {A : Type 0} where
  -- xs at the front of out; what comes after it is kept
  unfoldable pub over : List A → List A → List A
  over xs out = xs ++ drop (length xs) out

  -- text in out from place k on; what comes before and after it is kept
  unfoldable pub laid : List A → ℕ → List A → List A
  laid out k text = take k out ++ text ++ drop (k + length text) out

-- Writing text into before at k ended at end and left after.
pub record Wrote {A : Type 0} (before : List A) (k : ℕ) (text : List A) (end : ℕ) (after : List A) : Type 0 where
  pub room : k + length text ≤ length before
  pub ends : end ≡ k + length text
  pub left : after ≡ laid before k text
