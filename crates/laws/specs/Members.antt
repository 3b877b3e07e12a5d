-- What is said of sets member by member.
use Rattle.std.specs.Prelude.{ℕ, ◌≤◌, ◌<◌, true, false, ◌≡◌}
use Rattle.laws.specs.Sets.{member}

-- s has a member
abbrev pub Some : ℕ → Type 0
Some s = (a : ℕ) × (member s a ≡ true)

-- s has none
abbrev pub None : ℕ → Type 0
None s = (a : ℕ) → member s a ≡ false

-- every member of s is a member of t
abbrev pub Within : ℕ → ℕ → Type 0
Within s t = (a : ℕ) → member s a ≡ true → member t a ≡ true

-- some member of s is no member of t
abbrev pub Beyond : ℕ → ℕ → Type 0
Beyond s t = (a : ℕ) × (member s a ≡ true) × (member t a ≡ false)

-- some member of s is a member of t
abbrev pub Shared : ℕ → ℕ → Type 0
Shared s t = (a : ℕ) × (member s a ≡ true) × (member t a ≡ true)

-- no member of s is a member of t
abbrev pub Apart : ℕ → ℕ → Type 0
Apart s t = (a : ℕ) → member s a ≡ true → member t a ≡ false

-- some member of s is R or above
abbrev pub Above : ℕ → ℕ → Type 0
Above s R = (a : ℕ) × (member s a ≡ true) × (R ≤ a)

-- every member of s is below R
abbrev pub Under : ℕ → ℕ → Type 0
Under s R = (a : ℕ) → member s a ≡ true → a < R
