-- What stands before a turn.
use Rattle.std.specs.Prelude.{ℕ, ◌+◌, List, ◌≡◌}
use Rattle.laws.specs.Sets.{meets, union}
use Rattle.rows.specs.Order.{ahead, blocked}
use Rattle.rows.specs.declared.row.Row.{Row}
use Rattle.rows.specs.declared.stand.Standing.{Standing}

-- s is what is known of turn n: how many live rows stand before it, and which sets Q3 forbids it
pub record Stands (rows : List Row) (n : ℕ) (s : Standing) : Type 0 where
  pub before : s.ahead ≡ ahead rows n
  pub forbids : (x : ℕ) → meets s.claims x ≡ blocked rows n x

-- nobody stands before the first
abbrev pub front : Standing
front = record { ahead = 0; claims = 0 }

-- a standing with one more row before it
abbrev pub behind : Standing → Row → Standing
behind s r = record { ahead = s.ahead + 1; claims = union s.claims r.declared }
