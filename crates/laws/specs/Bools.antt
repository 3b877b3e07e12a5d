-- Truth values as numbers, and if .. then.
use Rattle.std.specs.Prelude.{ℕ, Bool, true, false, not, ◌||◌}

-- true as 1, false as 0
abbrev pub bit : Bool → ℕ
bit true = 1
bit false = 0

-- if a then b
abbrev pub implies : Bool → Bool → Bool
implies a b = not a || b
