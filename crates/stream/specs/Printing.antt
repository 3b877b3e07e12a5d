-- What printing through a room promises.
use Rattle.std.specs.Prelude.{ℕ, ◌+◌, ◌<◌, ◌≤◌, cond, List, ◌≡◌, leb, length}
use Rattle.laws.specs.Front.{Wrote}

-- where n bytes go in a room of that size when `at` wait: after those, or to the front once those are written
abbrev pub place_for : ℕ → ℕ → ℕ → ℕ
place_for size at n = cond (leb (at + n) size) at 0

-- the bytes wait too, after the `at` that waited or alone; more than the room holds went straight out
pub record Printed (room : List ℕ) (at : ℕ) (bytes : List ℕ) (left : List ℕ) (end : ℕ) : Type 0 where
  pub waits : length bytes ≤ length room → Wrote room (place_for (length room) at (length bytes)) bytes end left
  pub straight : length room < length bytes → (end ≡ 0) × (left ≡ room)
