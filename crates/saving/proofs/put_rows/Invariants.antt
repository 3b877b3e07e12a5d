-- The loop keeps what is to come: the rows left, laid from where the next one goes, make the whole.
use Rattle.std.specs.Prelude.{◌*◌, ◌≡◌}
use Rattle.saving.specs.Prelude.{drop, laid}
use Rattle.service.specs.File.{row_size, rows_bytes, rows_said}
use Rattle.rows.specs.Line.{line}
use Rattle.saving.proofs.put_rows.Given as goal

abbrev pub invariant-loop-i : goal.invariant-loop-i
invariant-loop-i l =
    laid l.room (row_size * l.i) (rows_bytes (rows_said l.rows (drop l.i (line l.rows)))) ≡ laid l.initial.room 0 (rows_bytes (rows_said l.rows (line l.rows)))
