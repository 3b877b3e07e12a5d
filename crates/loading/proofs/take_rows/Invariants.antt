-- The loop keeps that what was taken and what is left come to what all rows of the file do.
use Rattle.std.specs.Prelude.{◌*◌, ◌-◌}
use Rattle.loading.specs.Prelude.{FileRow, List, ℕ, drop}
use Rattle.service.specs.File.{head_size, row_size, rows_in}
use Rattle.loading.specs.Taking.{Taking}
use Rattle.loading.proofs.take_rows.Given as goal

-- the rows of a file from row i on
abbrev pub left_in : List ℕ → ℕ → ℕ → List FileRow
left_in file count i = rows_in (count - i) (drop (row_size * i) (drop head_size file))

abbrev pub invariant-loop-i : goal.invariant-loop-i
invariant-loop-i l =
    Taking (rows_in l.count (drop head_size l.file)) (left_in l.file l.count l.i) l.rows l.fits l.passed.0
