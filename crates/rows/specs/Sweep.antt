-- What a change of the rows wakes: who has a token now and which asked sets Q3 allows now follow from the rows as they are.
use Rattle.std.specs.Prelude.{ℕ, Bool, cond, not, ◌&&◌, List, map}
use Rattle.laws.specs.Sets.{union}
use Rattle.rows.specs.Line.{keep, line, row_of}
use Rattle.rows.specs.Order.{blocked, waiting}
use Rattle.rows.specs.declared.row.Row.{Row}

-- the whole asked set is held, where Q3 allows it
abbrev pub granted_row : List Row → Row → Row
granted_row rows r =
    cond (blocked rows r.turn.0 r.asked) r
    (record { turn = r.turn; declared = r.declared; held = union r.held r.asked; asked = 0; since = r.since })

-- a row that does not wait has no waiting time
abbrev pub rested_row : ℕ → List Row → Row → Row
rested_row T rows r =
    cond (waiting T rows r) r
    (record { turn = r.turn; declared = r.declared; held = r.held; asked = r.asked; since = 0 })

-- the row after the sweep
abbrev pub swept_row : ℕ → List Row → Row → Row
swept_row T rows r = rested_row T rows (granted_row rows r)

-- every asked set that Q3 allows is granted, and whoever no longer waits has no waiting time
unfoldable pub settled : ℕ → List Row → List Row
settled T rows = map (swept_row T rows) rows

-- the job waited before and does not wait after
abbrev pub woke : ℕ → List Row → List Row → ℕ → Bool
woke T before after j = waiting T before (row_of before j) && not (waiting T after (row_of after j))

-- the jobs that waited before and do not wait after, in order of turn
unfoldable pub woken : ℕ → List Row → List Row → List ℕ
woken T before after = keep (woke T before after) (line after)
