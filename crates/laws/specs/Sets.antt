-- Sets of resources as numbers: resource a is the bit of value 2 ^ a. Numbers may be of any size, so a width is never named.
use Rattle.std.specs.Prelude.{ℕ, ◌-◌, ◌/◌, ◌%◌, ◌^◌, Bool, eqb, ltb}
use Rattle.std.specs.Int.Bits.{bit_and, bit_or}

-- a is a member: its bit is 1
unfoldable pub member : ℕ → ℕ → Bool
member s a = eqb (s / 2 ^ a % 2) 1

-- the members of both
unfoldable pub meet : ℕ → ℕ → ℕ
meet s t = bit_and s t

-- the members of either
unfoldable pub union : ℕ → ℕ → ℕ
union s t = bit_or s t

-- the members of s that are no members of t
unfoldable pub without : ℕ → ℕ → ℕ
without s t = s - meet s t

-- some member of s is a member of t
unfoldable pub meets : ℕ → ℕ → Bool
meets s t = ltb 0 (meet s t)

-- every member of s is a member of t
unfoldable pub inside : ℕ → ℕ → Bool
inside s t = eqb (meet s t) s

-- every member of s is below r
unfoldable pub below : ℕ → ℕ → Bool
below s r = ltb s (2 ^ r)
