-- Text as bytes, in ASCII. A number in decimal: its text, without leading zeros, and the number that a text stands for.
use Prim.Native.Char.{code}
use Rattle.std.specs.Prelude.{ℕ, zero, suc, ◌+◌, ◌-◌, ◌/◌, ◌%◌, ◌*◌, ◌^◌, ◌<◌, ◌≤◌, true, false, List, [], ◌∷◌, ◌++◌, ◌≡◌, ltb, length, get_or}
use Prim.Native.String.{String, [] as end, ◌∷◌ as ◌then◌}

-- a text as bytes, in ASCII
abbrev pub ascii : String → List ℕ
ascii end = []
ascii (c then s) = code c ∷ ascii s

-- n's digits in at most depth steps: those of n / 10, then n % 10; n steps are enough, as n / 10 is below n
unfoldable pub digits : ℕ → ℕ → List ℕ
digits zero n = (48 + n) ∷ []
digits (suc depth) n =
    elim (ltb n 10) [ true ↦ (48 + n) ∷ [] | false ↦ digits depth (n / 10) ++ (48 + n % 10) ∷ [] ]

-- n in decimal, most significant digit first, as ASCII bytes: the digit d is 48 + d
unfoldable pub text : ℕ → List ℕ
unfolding digits
text n = digits n n

-- the number that a row of ASCII digits stands for: the sum of each digit times ten to the power of how many stand after it
unfoldable pub value : List ℕ → ℕ
value [] = 0
value (b ∷ t) = (b - 48) * 10 ^ length t + value t

-- b is the byte of a digit
abbrev pub Digit : ℕ → Type 0
Digit b = (48 ≤ b) × (b ≤ 57)

-- every byte of t is that of a digit
abbrev pub Digits : List ℕ → Type 0
Digits t = (i : ℕ) → i < length t → Digit (get_or t i 0)

-- t is a number as it is written: some digits and nothing else, a zero in front only where it stands alone
pub record Canonical (t : List ℕ) : Type 0 where
  pub filled : 0 < length t
  pub each : Digits t
  pub leading : get_or t 0 0 ≡ 48 → length t ≡ 1
