-- The walk as a function of what is left of the line, what it promises, and what its loop keeps.
use Rattle.std.specs.Prelude.{ℕ, Bool, false, true, ◌&&◌, List, [], ◌∷◌, ◌⊎◌, ◌≡◌, Option, IfSome, is_some, eqb, leb, ltb}
use Rattle.laws.specs.Lists.{any, holds}
use Rattle.laws.specs.Sets.{below, meets}
use Rattle.line.specs.Along.{Along}
use Rattle.rows.specs.Line.{line, row_of}
use Rattle.rows.specs.Order.{idle, live}
use Rattle.rows.specs.Propositions.{InTurn}
use Rattle.rows.specs.Stand.{Stands, behind, front}
use Rattle.rows.specs.declared.row.Row.{Row}
use Rattle.rows.specs.declared.stand.Standing.{Standing}
use Rattle.soundness.specs.Beside.{beside_by}
use Rattle.soundness.specs.declared.Bounds.{Bounds}
use Rattle.walk.specs.declared.Place.{Place}

-- along what is left of the line, after turn m and with s standing before it: turns rise, and each row is sound beside what
-- stands before it; at its end the last turn is one that was given, and every resource is below R
unfoldable pub walks : Bounds → List Row → Standing → ℕ → List ℕ → Bool
walks b rows s m [] = leb m b.last.0 && below s.claims b.resources
walks b rows s m (j ∷ left) =
    ltb m (row_of rows j).turn.0
    && holds (beside_by b.tokens b.time (row_of rows j) s.ahead (meets s.claims))
    && walks b rows (behind s (row_of rows j)) (row_of rows j).turn.0 left

-- what is found of job j: its row, or an idle one where it has no request, and what stands before it
pub record Found (rows : List Row) (j : ℕ) (p : Place) : Type 0 where
  pub stands : Stands rows (row_of rows j).turn.0 p.standing
  pub alive : live (row_of rows j) ≡ true → p.row ≡ row_of rows j
  pub rests : live (row_of rows j) ≡ false → p.row ≡ idle

-- something is found exactly where the walk's test passes, and it is job j
pub record Walks (b : Bounds) (rows : List Row) (j : ℕ) (w : Option Place) : Type 0 where
  pub told : is_some w ≡ walks b rows front 0 (line rows)
  pub found : IfSome w (Found rows j)

-- a job is still to come in what is left of the line, if it is live
pub record Coming (rows : List Row) (job : ℕ) (left : List ℕ) (p : Place) : Type 0 where
  pub front : p.standing ≡ front
  pub idle : p.row ≡ idle
  pub comes : any (eqb job) left ≡ live (row_of rows job)

-- Along what is left of the line, after turn m and with s standing before it: its test is that of the whole line, and the
-- job that is looked for is still to come, or was found.
pub record Walking (b : Bounds) (rows : List Row) (job : ℕ) (s : Standing) (m : ℕ) (p : Place) (left : List ℕ) : Type 0 where
  pub same : walks b rows s m left ≡ walks b rows front 0 (line rows)
  pub along : Along rows s m left
  pub sorted : InTurn rows left
  pub seeks : Found rows job p ⊎ Coming rows job left p
