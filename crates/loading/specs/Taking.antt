-- What taking the rows of a file comes to, and what holds on the way.
use Rattle.std.specs.Prelude.{ℕ, Bool, not, ◌&&◌, List, [], ◌∷◌, map, ◌≡◌, ltb, length, replicate, Result, Ok, Err}
use Rattle.arbiter.specs.Answers.{said_of, says_done}
use Rattle.arbiter.specs.Meaning.{no_table}
use Rattle.arbiter.specs.Sound.{sound}
use Rattle.arbiter.specs.declared.table.Next.{Next}
use Rattle.arbiter.specs.declared.table.Table.{Table}
use Rattle.event.specs.Limits.{jobs}
use Rattle.event.specs.Refusals.{refusing}
use Rattle.event.specs.declared.refusal.Refusal.{Refusal}
use Rattle.event.specs.declared.refusal.Refusal.TheVariants.{BitSet, UnsoundTable}
use Rattle.service.specs.File.{ascend, once, placed}
use Rattle.service.specs.Placing.{fits}
use Rattle.service.specs.declared.format.FileRow.{FileRow}
use Rattle.laws.specs.Cases.{Case, Outcome, leaves, outcome}
use Rattle.laws.specs.Lists.{any}
use Rattle.rows.specs.Order.{idle}
use Rattle.rows.specs.declared.row.Row.{Row}

-- an answer beside what was lent: what is left there, or the refusal
abbrev pub with_left : {A : Type 0} → Result Unit Refusal → A → Result A Refusal
with_left (Ok u) a = Ok a
with_left (Err r) a = Err r

-- a bit of a row that must be 0 is 1
abbrev pub stray : List FileRow → Bool
stray fs = any (ltb 0) (map (λ f. f.zero) fs)

-- when rows of a file are not taken
abbrev pub take_cases : List FileRow → List Case
take_cases fs = refusing BitSet (stray fs) ∷ refusing UnsoundTable (not (ascend 0 fs && once fs)) ∷ []

-- what they are taken as: each at the place of its job
unfoldable pub rows_taken : List FileRow → Outcome (List Row)
rows_taken fs = outcome (take_cases fs) (placed (replicate jobs idle) fs)

-- The rows of a file were taken: each stands at the place of its job; whether their turns and jobs fit, and whether a bit is set.
pub record Takes (fs : List FileRow) (rows : List Row) (ok bit : Bool) : Type 0 where
  pub places : rows ≡ placed (replicate jobs idle) fs
  pub fit : ok ≡ (ascend 0 fs && once fs)
  pub strays : bit ≡ stray fs

-- The rows before `left` were taken, the last of turn n: what they and the rest come to is what all of fs do.
pub record Taking (fs left : List FileRow) (rows : List Row) (ok : Bool) (n : ℕ) : Type 0 where
  pub long : length rows ≡ jobs
  pub places : placed rows left ≡ placed (replicate jobs idle) fs
  pub fit : (ok && fits n rows left) ≡ fits 0 (replicate jobs idle) fs
  pub strays : stray left ≡ stray fs

-- when a table is refused, given whether its rows fit
abbrev pub judge_cases : Table → Bool → List Case
judge_cases t ok = refusing UnsoundTable (not (ok && sound t)) ∷ []

-- The table was judged, given whether its rows fit.
pub record Judges (t : Table) (ok : Bool) (r : Next) : Type 0 where
  pub says : said_of r.answer ≡ outcome (judge_cases t ok) says_done
  pub hands : r.table ≡ leaves (judge_cases t ok) no_table t
