-- The numbers of a table, as code hands them on.
use Rattle.soundness.specs.declared.Bounds.{Bounds}
use Rattle.arbiter.specs.declared.table.Table.{Table}

-- the numbers of a table
abbrev pub bounds_of : Table → Bounds
bounds_of t =
    record { tokens = t.tokens; resources = t.resources; limit = t.limit; time = t.time; last = t.last }
