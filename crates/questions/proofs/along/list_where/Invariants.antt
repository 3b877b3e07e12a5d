-- The loop keeps: whatever the test decides, the jobs written and those that pass it and are still to come make up the list, and
-- the rest is as it was.
use Rattle.std.specs.Prelude.{ℕ, ◌≤◌, Bool}
use Rattle.questions.specs.Prelude.{line}
use Rattle.questions.specs.InCode.{Decides}
use Rattle.sweep.proofs.Writing.{Writing}
use Rattle.questions.proofs.along.list_where.Given as goal

abbrev pub invariant-loop-place : goal.invariant-loop-place
invariant-loop-place g l =
    goal.F-IsAlwaysCallable g l.test
    × (l.n ≤ l.place)
    × ((f : ℕ → Bool) → Decides (goal.F-post g l.test) l.rows f → Writing f (line l.rows) l.initial.list l.list l.n l.place)
