-- The order of opening, and the two counts along it that decide everything: who stands before, and who is in the way.
use Rattle.std.specs.Prelude.{ℕ, Bool, not, ◌&&◌, ◌||◌, List, eqb, ltb}
use Rattle.laws.specs.Lists.{all, count}
use Rattle.laws.specs.Sets.{meets}
use Rattle.rows.specs.declared.row.Row.{Row}

-- the row of a job that has no request
abbrev pub idle : Row
idle = record { turn = record { 0 = 0 }; declared = 0; held = 0; asked = 0; since = 0 }

-- a row whose turn is not 0 is a request
abbrev pub live : Row → Bool
live r = ltb 0 r.turn.0

-- a live row of lower turn than n
abbrev pub earlier : ℕ → Row → Bool
earlier n r = live r && ltb r.turn.0 n

-- "ahead": how many live rows have a lower turn than n
unfoldable pub ahead : List Row → ℕ → ℕ
ahead rows n = count (earlier n) rows

-- a live row of lower turn than n that declares some member of s
abbrev pub claims : ℕ → ℕ → Row → Bool
claims n s r = earlier n r && meets r.declared s

-- "in the way": how many live rows of lower turn than n declare some member of s
unfoldable pub in_way : List Row → ℕ → ℕ → ℕ
in_way rows n s = count (claims n s) rows

-- Q3 forbids s to turn n: a live row of lower turn declares some member of it
abbrev pub blocked : List Row → ℕ → ℕ → Bool
blocked rows n s = ltb 0 (in_way rows n s)

-- turn n has a token: fewer than T live rows come before it
abbrev pub token : ℕ → List Row → ℕ → Bool
token T rows n = ltb (ahead rows n) T

-- a live row without a token, or with a non-empty asked set
abbrev pub waiting : ℕ → List Row → Row → Bool
waiting T rows r = live r && (not (token T rows r.turn.0) || ltb 0 r.asked)

-- a live row of turn n
abbrev pub bears : ℕ → Row → Bool
bears n r = live r && eqb r.turn.0 n

-- an idle row, or the only live row of its turn
abbrev pub alone : List Row → Row → Bool
alone rows r = not (live r) || eqb (count (bears r.turn.0) rows) 1

-- no two live rows share a turn
unfoldable pub distinct : List Row → Bool
distinct rows = all (alone rows) rows
