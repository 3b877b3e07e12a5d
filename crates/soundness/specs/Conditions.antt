-- The conditions on the numbers and on single rows of a sound table, in the order of document 01, "What a table holds".
use Rattle.std.specs.Prelude.{ℕ, ◌-◌, ◌^◌, Bool, not, ◌&&◌, ◌||◌, List, [], ◌∷◌, eqb, leb, ltb}
use Rattle.event.specs.Limits.{highest, most}
use Rattle.laws.specs.Sets.{inside, meets}
use Rattle.rows.specs.declared.row.Row.{Row}

-- n lies between two numbers, both included
abbrev pub within : ℕ → ℕ → ℕ → Bool
within low high n = leb low n && leb n high

-- ---- The numbers of a table

-- T, R and the limit in range
abbrev pub ranges : ℕ → ℕ → ℕ → List Bool
ranges T R limit = within 1 most T ∷ within 1 most R ∷ within 1 (2 ^ 32 - 1) limit ∷ []

-- true time and the last turn at most 2^63-1
abbrev pub counters : ℕ → ℕ → List Bool
counters time last = leb time highest ∷ leb last highest ∷ []

-- ---- A row on its own

-- an idle row is zero
abbrev pub idle_conditions : Row → List Bool
idle_conditions r = eqb r.declared 0 ∷ eqb r.held 0 ∷ eqb r.asked 0 ∷ eqb r.since 0 ∷ []

-- its declared set is not empty, or it has a token: only who has one can have given up all of it
abbrev pub declares_some : Bool → Row → Bool
declares_some token r = ltb 0 r.declared || token

-- held inside declared
abbrev pub held_declared : Row → Bool
held_declared r = inside r.held r.declared

-- asked inside declared
abbrev pub asked_declared : Row → Bool
asked_declared r = inside r.asked r.declared

-- held and asked disjoint
abbrev pub held_not_asked : Row → Bool
held_not_asked r = not (meets r.held r.asked)
