-- A text that grows in a lent buffer.
use Rattle.std.specs.Prelude.{ℕ, ◌+◌, ◌≤◌, List, ◌≡◌, length}
use Rattle.laws.specs.Front.{Wrote}
use Rattle.lines.specs.declared.text.Text.{Text}

-- there is room for n bytes more
abbrev pub Room : Text → ℕ → Type 0
Room t n = t.at + n ≤ length t.out.now

-- These bytes were put: they stand where the text went on, and all else is as before.
pub record Puts (before : Text) (bytes : List ℕ) (after : Text) : Type 0 where
  pub same : after.out.ghost_name ≡ before.out.ghost_name
  pub wrote : Wrote before.out.now before.at bytes after.at after.out.now
