-- The rows that an opening, an ask, a release and a give up write.
use Rattle.std.specs.Prelude.{ℕ, ◌+◌, Bool, cond}
use Rattle.laws.specs.Sets.{union, without}
use Rattle.rows.specs.declared.row.Row.{Row}

-- a request opened at a time: the next turn, and a wait from then on if it has no token
abbrev pub opening : ℕ → Bool → ℕ → ℕ → Row
opening last token time s =
    record { turn = record { 0 = last + 1 }; declared = s; held = 0; asked = 0; since = cond token 0 time }

-- an ask: all of the set is held, or, where it is forbidden, all of it is asked, from this time on
abbrev pub asking : Row → Bool → ℕ → ℕ → Row
asking r forbidden time s =
    cond forbidden
    (record { turn = r.turn; declared = r.declared; held = r.held; asked = s; since = time })
    (record { turn = r.turn; declared = r.declared; held = union r.held s; asked = r.asked; since = r.since })

-- a release takes the members out of the held set and leaves the declared set alone
abbrev pub releasing : Row → ℕ → Row
releasing r s =
    record { turn = r.turn; declared = r.declared; held = without r.held s; asked = r.asked; since = r.since }

-- a give up takes the members out of the declared set too, for good
abbrev pub giving_up : Row → ℕ → Row
giving_up r s =
    record { turn = r.turn; declared = without r.declared s; held = without r.held s; asked = r.asked; since = r.since }
