-- Conditions on a row as code tests them: by the numbers of the table and by what is known of the row's turn, how many live
-- rows of lower turn there are and which sets these forbid it. With what the rows say of that turn they are those of the
-- table.
use Rattle.std.specs.Prelude.{ℕ, Bool, cond, not, ◌&&◌, ◌||◌, List, [], ◌∷◌, ◌++◌, eqb, leb, ltb}
use Rattle.laws.specs.Bools.{implies}
use Rattle.laws.specs.Lists.{all, holds}
use Rattle.laws.specs.Sets.{below, inside, meets, union}
use Rattle.rows.specs.Order.{ahead, blocked, distinct, live}
use Rattle.rows.specs.declared.row.Row.{Row}
use Rattle.soundness.specs.Conditions.{asked_declared, counters, declares_some, held_declared, held_not_asked, idle_conditions, ranges}
use Rattle.soundness.specs.declared.Bounds.{Bounds}

-- the conditions on a live row by its own numbers, and by whether it has a token
abbrev pub own_by : ℕ → ℕ → Row → Bool → List Bool
own_by R last r token =
    leb r.turn.0 last
    ∷ declares_some token r
    ∷ below r.declared R
    ∷ held_declared r
    ∷ asked_declared r
    ∷ held_not_asked r
    ∷ []

-- the conditions on it by its place among the others
abbrev pub place_by : ℕ → ℕ → Row → ℕ → (ℕ → Bool) → List Bool
place_by T time r before forbidden =
    implies (ltb 0 r.held) (ltb before T)
    ∷ implies (ltb 0 r.asked) (ltb before T)
    ∷ not (forbidden r.held)
    ∷ implies (ltb 0 r.asked) (forbidden r.asked)
    ∷ leb r.since time
    ∷ implies (not (live r && (not (ltb before T) || ltb 0 r.asked))) (eqb r.since 0)
    ∷ []

-- the conditions on any row
abbrev pub row_by : ℕ → ℕ → ℕ → ℕ → Row → ℕ → (ℕ → Bool) → List Bool
row_by T R time last r before forbidden =
    cond (live r) (own_by R last r (ltb before T) ++ place_by T time r before forbidden) (idle_conditions r)

-- a row is zero if it is idle
abbrev pub zeroed : Row → Bool
zeroed r = implies (not (live r)) (holds (idle_conditions r))

-- the conditions on a live row, except for its turn, which is at most the last one given, and its resources, which are below R
abbrev pub beside_by : ℕ → ℕ → Row → ℕ → (ℕ → Bool) → List Bool
beside_by T time r before forbidden =
    declares_some (ltb before T) r
    ∷ held_declared r
    ∷ asked_declared r
    ∷ held_not_asked r
    ∷ implies (ltb 0 r.held) (ltb before T)
    ∷ implies (ltb 0 r.asked) (ltb before T)
    ∷ not (forbidden r.held)
    ∷ implies (ltb 0 r.asked) (forbidden r.asked)
    ∷ leb r.since time
    ∷ implies (not (not (ltb before T) || ltb 0 r.asked)) (eqb r.since 0)
    ∷ []

-- the same of a row that has a token, as code tests it: what it holds and asks for is declared, what it holds is apart from
-- what it asks for and from all that is claimed before it, and it waits exactly while it asks for some of that
abbrev pub holder_by : ℕ → Row → ℕ → Bool
holder_by time r claims =
    (inside (union r.held r.asked) r.declared && not (meets r.held (union r.asked claims)))
    && cond (eqb r.asked 0) (eqb r.since 0) (meets claims r.asked && leb r.since time)

-- a row is sound among these rows, beside these numbers
abbrev pub sound_in : Bounds → List Row → Row → Bool
sound_in b rows r =
    holds (row_by b.tokens b.resources b.time b.last.0 r (ahead rows r.turn.0) (blocked rows r.turn.0))

-- the numbers and the rows are those of a sound table
unfoldable pub sound_by : Bounds → List Row → Bool
sound_by b rows =
    holds (ranges b.tokens b.resources b.limit) && holds (counters b.time b.last.0) && distinct rows
    && all (sound_in b rows) rows
