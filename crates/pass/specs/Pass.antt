-- What the pass promises.
use Rattle.std.specs.Prelude.{ℕ, true, List, ◌≡◌}
use Rattle.line.specs.LineInCode.{Lines}
use Rattle.request.specs.declared.seen.Seen.{Seen}
use Rattle.rows.specs.Line.{row_of}
use Rattle.rows.specs.Order.{token}
use Rattle.rows.specs.Stand.{Stands}
use Rattle.rows.specs.declared.row.Row.{Row}
use Rattle.soundness.specs.Beside.{sound_by}
use Rattle.soundness.specs.declared.Bounds.{Bounds}
use Rattle.pass.specs.declared.known.Survey.{Survey}

-- what a call about job j sees of these numbers and rows
abbrev pub seen_by : Bounds → List Row → ℕ → Seen
seen_by b rows j =
    record {
      sound = sound_by b rows;
      resources = b.resources;
      time = b.time;
      last = b.last;
      row = row_of rows j;
      token = token b.tokens rows (row_of rows j).turn.0;
    }

-- what is known of a sound table
pub record Known (b : Bounds) (rows : List Row) (j : ℕ) (v : Survey) : Type 0 where
  pub sees : v.seen ≡ seen_by b rows j
  pub stands : Stands rows (row_of rows j).turn.0 v.standing
  pub lines : Lines rows v.line

-- it says whether the table is sound, and if it is, all that a call about job j sees of it
pub record Surveyed (b : Bounds) (rows : List Row) (j : ℕ) (v : Survey) : Type 0 where
  pub told : v.seen.sound ≡ sound_by b rows
  pub known : sound_by b rows ≡ true → Known b rows j v
