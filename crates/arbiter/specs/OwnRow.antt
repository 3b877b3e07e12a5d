-- A live row on its own, resource by resource.
use Rattle.std.specs.Prelude.{◌≤◌, true, ◌⊎◌, ◌≡◌}
use Rattle.laws.specs.Members.{Apart, Some, Under, Within}
use Rattle.rows.specs.declared.row.Row.{Row}
use Rattle.arbiter.specs.Sound.{token_of}
use Rattle.arbiter.specs.declared.table.Table.{Table}

-- a live row on its own, resource by resource: it declares some, or has a token
pub record OwnRow (t : Table) (r : Row) : Type 0 where
  pub given : r.turn.0 ≤ t.last.0
  pub declares : Some r.declared ⊎ (token_of t r ≡ true)
  pub in_range : Under r.declared t.resources
  pub held_declared_lem : Within r.held r.declared
  pub asked_declared_lem : Within r.asked r.declared
  pub apart : Apart r.held r.asked
