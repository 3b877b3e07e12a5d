-- Laws of decimal text: both round trips.
use Rattle.std.specs.Prelude.{◌%◌, ◌*◌, ◌+◌, ◌++◌, ◌-◌, ◌/◌, ◌<◌, ◌^◌, ◌∷◌, ◌≡◌, ◌≢◌, ◌≤◌}
use Rattle.decimal.specs.Prelude.{List, List·getD-append, [], add-one, append-nil, append_snoc, arith, dec_lt, get_or, le-ltb, le_refl, length, length-append, lt-ltb, map, mul_assoc, not-suc-le-zero, pow-suc, refl, suc, sym, zero, ℕ, ◌∙◌}
use Rattle.decimal.specs.Text.{digits, text, value, Digit, Digits, Canonical}

-- ---- Text, digit by digit

-- what holds of n below 10, and of n where it holds of n / 10, holds of every n
by_digit :
    (P : ℕ → Type 0) → ((n : ℕ) → n < 10 → P n) → ((n : ℕ) → 10 ≤ n → P (n / 10) → P n) → (n : ℕ) → P n
by_digit P small large n = below (suc n) n (omega arith)
  where
    below : (bound n : ℕ) → n < bound → P n
    below zero n h = absurd (not-suc-le-zero h)
    below (suc bound) n h =
        elim (dec_lt n 10) [ yes s ↦ small n s | no l ↦ large n (omega arith) (below bound (n / 10) (omega arith)) ]

digits_small : (depth n : ℕ) → n < 10 → digits depth n ≡ (48 + n) ∷ []
unfolding digits
digits_small zero n h = refl
digits_small (suc depth) n h = rw (lt-ltb n 10 h, digits)

digits_large :
    (depth n : ℕ) → 10 ≤ n → n ≤ depth → ((enough : ℕ) → n / 10 ≤ enough → digits enough (n / 10) ≡ text (n / 10)) →
    digits depth n ≡ text (n / 10) ++ (48 + n % 10) ∷ []
unfolding digits
digits_large zero n h fits rest = absurd (omega arith)
digits_large (suc depth) n h fits rest = rw (le-ltb n 10 h, digits) (rw (rest depth (omega arith)))

-- every depth from n on gives the same digits
digits_text : (n depth : ℕ) → n ≤ depth → digits depth n ≡ text n
unfolding text
digits_text =
    by_digit _ (λ n h depth fits. digits_small depth n h ∙ sym (digits_small n n h))
    (λ n h rest depth fits. digits_large depth n h fits rest ∙ sym (digits_large n n h (le_refl n) rest))

pub text_small : (n : ℕ) → n < 10 → text n ≡ (48 + n) ∷ []
unfolding text
text_small n h = digits_small n n h

pub text_large : (n : ℕ) → 10 ≤ n → text n ≡ text (n / 10) ++ (48 + n % 10) ∷ []
unfolding text
text_large n h = digits_large n n h (le_refl n) (digits_text (n / 10))

-- ---- Its length

pub length_text_small : (n : ℕ) → n < 10 → length (text n) ≡ 1
length_text_small n h = rw (text_small n h)

pub length_text_large : (n : ℕ) → 10 ≤ n → length (text n) ≡ length (text (n / 10)) + 1
length_text_large n h = rw (text_large n h) (length-append (text (n / 10)) _)

pub length_text_pos : (n : ℕ) → 0 < length (text n)
length_text_pos =
    by_digit _ (λ n h. omega (arith, length_text_small n h)) (λ n h rest. omega (arith, length_text_large n h))

-- a number below the k-th power of ten has at most k digits
pub length_text : (k n : ℕ) → n < 10 ^ k → 0 < k → length (text n) ≤ k
length_text zero n h pos = absurd (not-suc-le-zero pos)
length_text (suc zero) n h pos = omega (arith, length_text_small n h)
length_text (suc (suc k)) n h pos =
    let power = pow-suc 10 (suc k) in
    elim (dec_lt n 10) [
      | yes small ↦ omega (arith, length_text_small n small)
      | no large ↦
          let rest = length_text (suc k) (n / 10) (omega arith) (omega arith) in
          omega (arith, length_text_large n (omega arith))
    ]

-- a u64 has at most 20 digits
pub length_text_u64 : (n : ℕ) → n < 2 ^ 64 → length (text n) ≤ 20
length_text_u64 n h = length_text 20 n (omega arith) (omega arith)

-- ---- From text to value and back

value_last : (s : List ℕ) (b : ℕ) → value (s ++ b ∷ []) ≡ value s * 10 + (b - 48)
unfolding value
value_last [] b = omega arith
value_last (a ∷ s) b = rw (value_last s b, length-append s (b ∷ []), add-one (length s), pow-suc, ← mul_assoc) (omega arith)

pub value_text : (n : ℕ) → value (text n) ≡ n
unfolding value
value_text =
    by_digit _ (λ n h. rw (text_small n h) (omega arith))
    (λ n h rest. rw (text_large n h, value_last (text (n / 10)) (48 + n % 10), rest) (omega arith))

digits_last : (s : List ℕ) (b : ℕ) → Digits s → Digit b → Digits (s ++ b ∷ [])
digits_last [] b d db zero h = db
digits_last [] b d db (suc i) h = absurd (omega arith)
digits_last (a ∷ s) b d db zero h = d 0 (omega arith)
digits_last (a ∷ s) b d db (suc i) h = digits_last s b (λ j g. d (suc j) (omega arith)) db i (omega arith)

-- a number above 0 does not begin with 0
text_first : (n : ℕ) → 0 < n → 48 < get_or (text n) 0 0
text_first =
    by_digit _ (λ n h pos. rw (text_small n h) (omega arith))
    (λ n h rest pos. rw (text_large n h, List·getD-append (text (n / 10)) _ 0 0 (length_text_pos (n / 10))) (rest (omega arith)))

text_digits : (n : ℕ) → Digits (text n)
text_digits =
    by_digit _ (λ n h. rw (text_small n h) (digits_last [] (48 + n) (λ i none. absurd (not-suc-le-zero none)) (omega arith)))
    (λ n h rest. rw (text_large n h) (digits_last (text (n / 10)) (48 + n % 10) rest (omega arith)))

pub text_canonical : (n : ℕ) → Canonical (text n)
text_canonical n = record {
  filled = length_text_pos n;
  each = text_digits n;
  leading = λ e. elim (dec_lt n 10) [
    | yes s ↦ length_text_small n s
    | no l ↦ absurd (omega (arith, text_first n (omega arith)))
  ];
}

-- a digit after the text of a number above 0
text_last : (m d : ℕ) → 0 < m → d < 10 → text (m * 10 + d) ≡ text m ++ (48 + d) ∷ []
text_last m d pos h =
    let n = m * 10 + d in
    let front : n / 10 ≡ m = omega arith in
    let last : n % 10 ≡ d = omega arith in
    rw (text_large n (omega arith), front, last)

-- where s is the text of a number above 0, so is s with digits after it
text_longer : (t s : List ℕ) → 0 < value s → Digits t → text (value s) ≡ s → text (value (s ++ t)) ≡ s ++ t
text_longer [] s pos d e = rw append-nil e
text_longer (b ∷ t) s pos d e =
    let db = d 0 (omega arith) in
    let byte : 48 + (b - 48) ≡ b = omega arith in
    let more : text (value (s ++ b ∷ [])) ≡ s ++ b ∷ [] =
    rw (value_last s b, text_last (value s) (b - 48) pos (omega arith), byte, e) in
    rw (← append_snoc s b t)
    (text_longer t (s ++ b ∷ []) (rw (value_last s b) (omega arith)) (λ i h. d (suc i) (omega arith)) more)

text_digit : (b : ℕ) → Digit b → text (value (b ∷ [])) ≡ b ∷ []
unfolding value
text_digit b db =
    let digit : value (b ∷ []) ≡ b - 48 = omega arith in
    let byte : 48 + (b - 48) ≡ b = omega arith in
    rw (digit, text_small (b - 48) (omega arith), byte)

pub text_value : (t : List ℕ) → Canonical t → text (value t) ≡ t
unfolding value
text_value [] c = absurd (not-suc-le-zero c.filled)
text_value (b ∷ []) c = text_digit b (c.each 0 (omega arith))
text_value (b ∷ a ∷ t) c =
    let first = c.each 0 (omega arith) in
    let not-zero : b ≢ 48 = λ e. let alone = c.leading e in omega arith in
    text_longer (a ∷ t) (b ∷ []) (omega arith) (λ i h. c.each (suc i) (omega arith)) (text_digit b first)

-- ---- Examples

bytes : List ℕ → List ℕ
bytes = map (λ d. 48 + d)

texts :
    (text 0 ≡ bytes (0 ∷ [])) × (text 7 ≡ bytes (7 ∷ [])) × (text 10 ≡ bytes (1 ∷ 0 ∷ []))
    × (text 4294967295 ≡ bytes (4 ∷ 2 ∷ 9 ∷ 4 ∷ 9 ∷ 6 ∷ 7 ∷ 2 ∷ 9 ∷ 5 ∷ []))
    × (text 18446744073709551615 ≡ bytes (1 ∷ 8 ∷ 4 ∷ 4 ∷ 6 ∷ 7 ∷ 4 ∷ 4 ∷ 0 ∷ 7 ∷ 3 ∷ 7 ∷ 0 ∷ 9 ∷ 5 ∷ 5 ∷ 1 ∷ 6 ∷ 1 ∷ 5 ∷ []))
unfolding text bytes
texts = (refl, refl, refl, refl, refl)

values : (value (bytes (1 ∷ 0 ∷ [])) ≡ 10) × (value (bytes (0 ∷ 0 ∷ 7 ∷ [])) ≡ 7)
unfolding value bytes
values = (refl, refl)
