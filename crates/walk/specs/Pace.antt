-- The walk's pace: what it has come to, and how it goes one job further.
use Rattle.std.specs.Prelude.{ℕ, Bool, Option, None, Some, cond, not, ◌&&◌, eqb, ltb}
use Rattle.laws.specs.Lists.{holds}
use Rattle.laws.specs.Sets.{below, meets}
use Rattle.rows.specs.Order.{idle}
use Rattle.rows.specs.Stand.{behind, front}
use Rattle.rows.specs.declared.row.Row.{Row}
use Rattle.rows.specs.declared.row.Turn.{Turn}
use Rattle.rows.specs.declared.stand.Standing.{Standing}
use Rattle.soundness.specs.Beside.{beside_by}
use Rattle.soundness.specs.declared.Bounds.{Bounds}
use Rattle.walk.specs.declared.Pace.{Pace}
use Rattle.walk.specs.declared.Place.{Place}

-- before the first job: nobody stands before it, and nothing was found
abbrev pub begun : Pace
begun = record { s = front; place = record { standing = front; row = idle }; passed = record { 0 = 0 } }

-- a row may come next in line, after the last turn passed and with s before it: its turn rises, and it is sound there
abbrev pub follows : Row → Turn → Standing → Bounds → Bool
follows r last s b = ltb last.0 r.turn.0 && holds (beside_by b.tokens b.time r s.ahead (meets s.claims))

-- past job k, whose row is r
abbrev pub past : Pace → ℕ → Row → ℕ → Pace
past w k r job =
    record {
      s = behind w.s r;
      place = cond (eqb k job) (record { standing = w.s; row = r }) w.place;
      passed = r.turn;
    }

-- one job further, if its row may come next
abbrev pub paced : Pace → ℕ → Row → Bounds → ℕ → Option Pace
paced w k r b job = cond (follows r w.passed w.s b) (Some (past w k r job)) None

-- what is returned at the end of the line
abbrev pub finished : Pace → Bounds → Option Place
finished w b = cond (not (ltb b.last.0 w.passed.0) && below w.s.claims b.resources) (Some w.place) None
