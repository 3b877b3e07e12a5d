-- What the tests of the order say of rows and lines, as propositions.
use Rattle.std.specs.Prelude.{ℕ, ◌<◌, ◌≤◌, true, List, [], ◌∷◌, ◌≡◌, get_or, length}
use Rattle.laws.specs.Sets.{member}
use Rattle.rows.specs.Line.{row_of}
use Rattle.rows.specs.declared.row.Row.{Row}

-- somebody in the way of turn n at set s: a live row of lower turn that declares a member of s
pub record InTheWay (rows : List Row) (n s : ℕ) : Type 0 where
  pub job : ℕ
  pub alive : 0 < (row_of rows job).turn.0
  pub before : (row_of rows job).turn.0 < n
  pub resource : ℕ
  pub declared : member (row_of rows job).declared resource ≡ true
  pub wanted : member s resource ≡ true

-- ---- Distinct turns

-- no two live rows share a turn
abbrev pub Distinct : List Row → Type 0
Distinct rows = (j k : ℕ) → 0 < (row_of rows j).turn.0 → (row_of rows j).turn.0 ≡ (row_of rows k).turn.0 → j ≡ k

-- ---- What holds of each job of a line

-- P holds of each entry
abbrev pub Each : (ℕ → Type 0) → List ℕ → Type 0
Each P l = (i : ℕ) → i < length l → P (get_or l i 0)

-- no job of a list has a lower turn than one before it
unfoldable pub InTurn : List Row → List ℕ → Type 0
InTurn rows [] = Unit
InTurn rows (k ∷ l) = Each (λ j. (row_of rows k).turn.0 ≤ (row_of rows j).turn.0) l × InTurn rows l

-- what an opening sets of a row, which is all that the order looks at: its turn and its declared set
abbrev pub opening_of : Row → Row
opening_of r = record { turn = r.turn; declared = r.declared; held = 0; asked = 0; since = 0 }
