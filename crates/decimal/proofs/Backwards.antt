-- A number's digits written from the last to the first.
use Rattle.std.specs.Prelude.{◌%◌, ◌+◌, ◌/◌, ◌<◌, ◌≡◌, ◌≤◌}
use Rattle.decimal.specs.Prelude.{List, arith, dec_lt, laid, laid_last, laid_one, length, set, ℕ}
use Rattle.decimal.specs.Text.{text}
use Rattle.decimal.specs.TextLaws.{text_small, text_large, length_text_small, length_text_large, length_text_pos}

-- The digits of `left` are to come: they end before place k, and laid in `out` they make what is wanted. None is to come once k is back
-- where the text begins.
pub record ToCome (wanted out : List ℕ) (at k left : ℕ) : Type 0 where
  pub place : at < k → k ≡ at + length (text left)
  pub rest : at < k → laid out at (text left) ≡ wanted
  pub done : k ≤ at → out ≡ wanted

-- the last of them is written
module _ (wanted out : List ℕ) (at k left : ℕ) (from : at ≤ k) (inside : k < length out) (now : ToCome wanted out at (k + 1) left) where
  pub last_written : ToCome wanted (set out k (48 + left % 10)) at k (left / 10)
  last_written = elim (dec_lt left 10) [ yes small ↦ first small | no large ↦ more (omega arith) ]
    where
      place : k + 1 ≡ at + length (text left)
      place = now.place (omega arith)

      first : left < 10 → ToCome wanted (set out k (48 + left % 10)) at k (left / 10)
      first h =
          let alone = length_text_small left h in
          let here : k ≡ at = omega arith in
          let digit : left % 10 ≡ left = omega arith in
          record {
            place = λ more. absurd (omega arith);
            rest = λ more. absurd (omega arith);
            done = λ _. rw (digit, laid_one out k (48 + left) inside, here, ← text_small left h) (now.rest (omega arith));
          }

      more : 10 ≤ left → ToCome wanted (set out k (48 + left % 10)) at k (left / 10)
      more h =
          let one_less = length_text_large left h in
          let some = length_text_pos (left / 10) in
          let here : k ≡ at + length (text (left / 10)) = omega arith in
          record {
            place = λ _. here;
            rest = λ _. rw (here, laid_last out at (48 + left % 10) (text (left / 10)) (omega arith), ← text_large left h) (now.rest (omega arith));
            done = λ none. absurd (omega arith);
          }
