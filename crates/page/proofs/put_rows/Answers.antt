-- The loop keeps: the lines of the jobs so far are written, and none took more than its room.
use Rattle.std.specs.Prelude.{◌<◌, ◌≡◌}
use Rattle.std.proofs.Common.{rules}
use Rattle.page.specs.Prelude.{List, Pieces, Row, ap, arith, get_or, jobs, length, length_lined_le, line, line_below, take, putting_length, putting_more, putting_none, refl, row_of, sym, ℕ}
use Rattle.page.specs.Page.{row_line, row_lines, row_room}
use Rattle.page.proofs.put_rows.Goals as goal
use Rattle.page.proofs.put_rows.Goals.{In-loop-job}

-- the line of a job is a piece of the lines
line-pieces : (rows : List Row) → Pieces (λ j. row_line j (row_of rows j)) (row_lines rows)
unfolding row_lines
line-pieces rows = record { empty = refl; first = λ j js. refl }

-- the jobs in the line are those of the rows
job_here : (c : In-loop-job) → get_or (line c.args.rows.now) c.loop-job.job-index 0 ≡ get_or (take c.args.line.now.len c.args.line.now.jobs) c.loop-job.job-index 0
job_here c = ap (λ (js : List ℕ). get_or js c.loop-job.job-index 0) (sym c.requires.lines.list)

-- and each has a row
placed : (c : In-loop-job) → c.loop-job.job-index < length (line c.args.rows.now)
placed c = rw (← c.requires.lines.list) c.loop-job-test.true

pub loop-job-init : goal.loop-job-init
loop-job-init c = putting_none (line-pieces c.args.rows.now) (line c.args.rows.now) row_room c.args.page.now (omega arith)

pub bounds-rows-job : goal.bounds-rows-job
bounds-rows-job c =
    let long : length c.args.rows.now ≡ jobs = search rules in
    let at = (goal.at.bounds-rows-job c).In-loop-job in
    omega (arith, line_below c.args.rows.now c.loop-job.job-index (placed at), job_here at)

pub put_row-requires : goal.put_row-requires
put_row-requires c =
    let long : length c.args.rows.now ≡ jobs = search rules in
    let at = (goal.at.put_row-requires c).In-loop-job in
    omega (arith, length_lined_le c.args.rows.now (length c.args.rows.now), placed at, putting_length c.loop-job.invariant)

pub loop-job-preserved : goal.loop-job-preserved
loop-job-preserved c =
    let at = (goal.at.loop-job-preserved c).In-loop-job in
    let w = c.put_row.ensures in
    putting_more (line-pieces c.args.rows.now) 0 (placed at) (job_here at) c.loop-job.invariant w.puts w.upper_bound
