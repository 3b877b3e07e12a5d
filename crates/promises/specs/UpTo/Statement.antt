-- What requests of turns up to n live through depends on the rows of turns up to n, and on no others. `up_to_decides`
-- and `up_to_tells` (Holds) say so, as `SameUpTo` of any event and as `ReportedAlike`, of two sound tables that `Agree`;
-- each has a row for each job and has given turn n.
use Rattle.std.specs.Prelude.{ℕ, ◌+◌, Bool, true, false, ◌&&◌, List, map, [], ◌∷◌, ◌≡◌}
use Rattle.event.specs.Events.{about, has_job, job_of}
use Rattle.event.specs.declared.events.Event.{Event}
use Rattle.laws.specs.Cases.{Outcome, refused, fine}
use Rattle.rows.specs.Line.{keep}
use Rattle.event.specs.Limits.{jobs}
use Rattle.rows.specs.Order.{earlier}
use Rattle.rows.specs.declared.row.Row.{Row}
use Rattle.arbiter.specs.Answers.{Said, says_done, says_granted, says_token, says_wait, says_woke}
use Rattle.arbiter.specs.Meaning.{answer, late, next, report}
use Rattle.arbiter.specs.declared.table.Table.{Table}
use Rattle.promises.specs.History.Words.{lists, taken}
use Rattle.arbiter.specs.Sound.{row_in}
use Rattle.kept.specs.Sound.Words.{seen}

-- the rows with those of higher turn than n made idle
abbrev pub up_to : ℕ → List Row → List Row
up_to n rows = map (seen (n + 1)) rows

-- tables with the same T, R, limit and true time, and the same rows of turns up to n; their other rows may be any
pub record Agree (n : ℕ) (t u : Table) : Type 0 where
  pub tokens : t.tokens ≡ u.tokens
  pub resources : t.resources ≡ u.resources
  pub limit : t.limit ≡ u.limit
  pub time : t.time ≡ u.time
  pub rows : up_to n t.rows ≡ up_to n u.rows

-- job j has a live request of a turn up to n
abbrev pub is_of_them : ℕ → Table → ℕ → Bool
is_of_them n t j = earlier (n + 1) (row_in t j)

-- an event names such a job
abbrev pub of_them : ℕ → Table → Event → Bool
of_them n t e = has_job (about e).role && is_of_them n t (job_of e)

-- an answer without the number that a completion or a give up woke, in which later requests count
abbrev pub but_number : Outcome Said → Outcome Said
but_number (refused k) = refused k
but_number (fine says_token) = fine says_token
but_number (fine says_granted) = fine says_granted
but_number (fine says_wait) = fine says_wait
but_number (fine says_done) = fine says_done
but_number (fine (says_woke k)) = fine (says_woke 0)

-- an event on two such tables
pub record SameUpTo (n : ℕ) (t u : Table) (e : Event) : Type 0 where
  -- one of theirs is answered the same
  pub answered : of_them n t e ≡ true → but_number (answer jobs t e) ≡ but_number (answer jobs u e)
  -- any event lists the same of them as woken, in the same order, and leaves them the same rows
  pub listed : keep (is_of_them n (next jobs t e)) (lists t e) ≡ keep (is_of_them n (next jobs u e)) (lists u e)
  pub rows : up_to n (next jobs t e).rows ≡ up_to n (next jobs u e).rows
  -- so where it is taken on both tables or on neither, as one of theirs is, the tables agree again
  pub agree : taken t e ≡ taken u e → Agree n (next jobs t e) (next jobs u e)
  pub taken_alike : of_them n t e ≡ true → taken t e ≡ taken u e
  -- any other event changes nothing of theirs
  pub others : of_them n t e ≡ false → up_to n (next jobs t e).rows ≡ up_to n t.rows

-- the two questions on two such tables: a report of one of them, and who of them is overdue
pub record ReportedAlike (n : ℕ) (t u : Table) : Type 0 where
  pub reported : (j : ℕ) → is_of_them n t j ≡ true → report t j ≡ report u j
  pub overdue : (tick : ℕ) → keep (is_of_them n t) (late t tick) ≡ keep (is_of_them n u) (late u tick)

-- over any sequence of events, each taken on both tables or on neither, the tables agree
unfoldable pub TakenAlike : Table → Table → List Event → Type 0
TakenAlike t u [] = Unit
TakenAlike t u (e ∷ es) = (taken t e ≡ taken u e) × TakenAlike (next jobs t e) (next jobs u e) es
