-- The loop keeps: the lines of the jobs so far are written, and none took more than its room.
use Rattle.page.specs.Prelude.{Putting, line}
use Rattle.page.specs.Page.{row_lines, row_room}
use Rattle.page.proofs.put_rows.Given as goal

abbrev pub invariant-loop-job : goal.invariant-loop-job
invariant-loop-job l = Putting (row_lines l.rows) (line l.rows) row_room l.initial.page l.job-index l.page
