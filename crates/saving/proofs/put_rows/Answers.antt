-- The loop keeps what is to come: the rows left, laid from where the next one goes, make the whole.
use Rattle.std.specs.Prelude.{◌*◌, ◌+◌, ◌<◌, ◌≡◌, ◌≤◌}
use Rattle.saving.specs.Prelude.{List, [], ap, arith, drop, drop_of_length-le, get_or, laid, laid_front, laid_none, laid_part, length, sym, take, ℕ, ◌∙◌}
use Rattle.service.specs.File.{row_bytes, row_size, rows_bytes, rows_said}
use Rattle.rows.specs.InLine.{line_below}
use Rattle.rows.specs.Line.{line}
use Rattle.saving.specs.SavingLaws.{row_put}
use Rattle.saving.proofs.put_rows.Goals as goal
use Rattle.saving.proofs.put_rows.Goals.{In-loop-i}

-- the job is the one in line
placed : (c : In-loop-i) → c.loop-i.i < length (line c.args.rows.now)
placed c = rw (← c.requires.0.list) c.loop-i-test.true

job_here : (c : In-loop-i) → get_or (line c.args.rows.now) c.loop-i.i 0 ≡ get_or (take c.args.along.now.len c.args.along.now.jobs) c.loop-i.i 0
job_here c = ap (λ (js : List ℕ). get_or js c.loop-i.i 0) (sym c.requires.0.list)

pub bounds-rows-job : goal.bounds-rows-job
bounds-rows-job c =
    let at = (goal.at.bounds-rows-job c).In-loop-i in
    omega (arith, line_below c.args.rows.now c.loop-i.i (placed at), job_here at, c.told-rows)

pub loop-i-preserved : goal.loop-i-preserved
loop-i-preserved c =
    let start = (goal.at.loop-i-preserved c).In-loop-i in
    let rows = c.args.rows.now in
    let room = c.loop-i.room in
    let i = c.loop-i.i in
    let at = row_size * i in
    let row = row_bytes c.say_row.result in
    let fits : at + row_size ≤ length room = omega (arith, placed start, c.requires.1) in
    let put = laid_part room c.put_row.new.room row at (omega arith) c.put_row.ensures in
    let left = rows_bytes (rows_said rows (drop (i + 1) (line rows))) in
    let next : row_size * (i + 1) ≡ at + row_size = omega arith in
    ap (λ (x : List ℕ). laid x (row_size * (i + 1)) left) put
    ∙ ap (λ (n : ℕ). laid (laid room at row) n left) next
    ∙ row_put rows (line rows) room i _ at c.say_row.result (placed start) (job_here start) c.say_row.ensures fits
    ∙ c.loop-i.invariant

pub returns : goal.returns
unfolding rows_bytes
returns c =
    let rows = c.args.rows.now in
    let over : length (line rows) ≤ c.loop-i.i = rw (← c.requires.0.list) c.loop-i-test.false in
    let none : drop c.loop-i.i (line rows) ≡ [] = drop_of_length-le (line rows) {i = c.loop-i.i} over in
    sym (laid_none c.loop-i.room (row_size * c.loop-i.i)) ∙ rw none at c.loop-i.invariant ∙ laid_front c.args.room.now (rows_bytes (rows_said rows (line rows)))
