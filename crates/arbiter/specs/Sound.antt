-- Sound tables, condition by condition in the order of document 01, "What a table holds". The conditions on its numbers and on
-- single rows stand in `soundness`'s Conditions.
use Rattle.std.specs.Prelude.{ℕ, Bool, cond, not, ◌&&◌, List, [], ◌∷◌, ◌++◌, eqb, leb, ltb}
use Rattle.laws.specs.Bools.{implies}
use Rattle.laws.specs.Lists.{all, holds}
use Rattle.laws.specs.Sets.{below}
use Rattle.rows.specs.Line.{row_of}
use Rattle.rows.specs.Order.{blocked, distinct, live, token, waiting}
use Rattle.rows.specs.declared.row.Row.{Row}
pub use Rattle.soundness.specs.Conditions.{asked_declared, counters, declares_some, held_declared, held_not_asked, idle_conditions, ranges, within}
use Rattle.arbiter.specs.declared.table.Table.{Table}

-- the row of a job
abbrev pub row_in : Table → ℕ → Row
row_in t j = row_of t.rows j

-- ---- The rows of a table; r is one of table t

-- its turn is at most the last turn; that it is unlike any other live turn is `distinct`
abbrev pub turn_given : Table → Row → Bool
turn_given t r = leb r.turn.0 t.last.0

-- its declared set lies within R
abbrev pub declared_in_range : Table → Row → Bool
declared_in_range t r = below r.declared t.resources

-- it has a token
abbrev pub token_of : Table → Row → Bool
token_of t r = token t.tokens t.rows r.turn.0

-- Q3 forbids it the set s
abbrev pub blocked_in : Table → Row → ℕ → Bool
blocked_in t r s = blocked t.rows r.turn.0 s

-- it waits: it has no token, or asks for something
abbrev pub waiting_in : Table → Row → Bool
waiting_in t r = waiting t.tokens t.rows r

-- if it holds something, it has a token
abbrev pub held_by_token : Table → Row → Bool
held_by_token t r = implies (ltb 0 r.held) (token_of t r)

-- if it asks for something, it has a token
abbrev pub asked_by_token : Table → Row → Bool
asked_by_token t r = implies (ltb 0 r.asked) (token_of t r)

-- no live row of lower turn declares what it holds
abbrev pub held_free : Table → Row → Bool
held_free t r = not (blocked_in t r r.held)

-- if it asks for something, a live row of lower turn declares some of it
abbrev pub asked_blocked : Table → Row → Bool
asked_blocked t r = implies (ltb 0 r.asked) (blocked_in t r r.asked)

-- its wait began no later than true time
abbrev pub since_in_time : Table → Row → Bool
since_in_time t r = leb r.since t.time

-- if it does not wait, that is zero
abbrev pub since_by_waiting : Table → Row → Bool
since_by_waiting t r = implies (not (waiting_in t r)) (eqb r.since 0)

-- the conditions on a live row by its own numbers, and by whether it has a token
abbrev pub own_conditions : Table → Row → List Bool
own_conditions t r =
    turn_given t r ∷ declares_some (token_of t r) r ∷ declared_in_range t r ∷ held_declared r ∷ asked_declared r ∷ held_not_asked r ∷ []

-- the conditions on it by its place among the others
abbrev pub place_conditions : Table → Row → List Bool
place_conditions t r =
    held_by_token t r ∷ asked_by_token t r ∷ held_free t r ∷ asked_blocked t r ∷ since_in_time t r ∷ since_by_waiting t r ∷ []

-- a row is sound in its table
abbrev pub sound_row : Table → Row → Bool
sound_row t r = holds (cond (live r) (own_conditions t r ++ place_conditions t r) (idle_conditions r))

-- the whole table is sound
unfoldable pub sound : Table → Bool
sound t =
    holds (ranges t.tokens t.resources t.limit) && holds (counters t.time t.last.0) && distinct t.rows
    && all (sound_row t) t.rows
