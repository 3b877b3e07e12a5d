-- Who goes on after a change, and who is late, as code finds it out from a row and its standing.
use Rattle.std.specs.Prelude.{ℕ, ◌-◌, Bool, not, ◌&&◌, ◌||◌, eqb, ltb}
use Rattle.laws.specs.Sets.{meets, union}
use Rattle.rows.specs.declared.row.Row.{Row}
use Rattle.rows.specs.declared.stand.Standing.{Standing}

-- a request that goes on holds what it asked for, and has no waiting time
abbrev pub goes_on : Row → Row
goes_on r =
    record { turn = r.turn; declared = r.declared; held = union r.held r.asked; asked = 0; since = 0 }

-- with this standing, which has a token, a row wakes: it asks for something that is free now; or, where the line moved up, it
-- is the last that has a token, and so has it only now
abbrev pub wakes_by : Bool → ℕ → Standing → Row → Bool
wakes_by up T s r = (ltb 0 r.asked || (up && eqb (T - s.ahead) 1)) && not (meets s.claims r.asked)

-- a live row, with a token or without one, waits, and since before this time
abbrev pub late_since : Bool → ℕ → Row → Bool
late_since token from r = ltb r.since from && (not token || ltb 0 r.asked)
