-- The rows still to be written, and the file that they and the head make.
use Rattle.std.specs.Prelude.{◌+◌, ◌++◌, ◌<◌, ◌∷◌, ◌≡◌, ◌≤◌, Result}
use Rattle.saving.specs.Prelude.{First, List, Refusal, Row, Table, add-one, ap, arith, drop, drop-cons, get_or, keep_unless, laid, laid_front, laid_laid, leaves_is, length, length-take, length_pack, outcome_is, outcome_of, over, row_of, suc, sym, unless, zero-add, ℕ, ◌∙◌}
use Rattle.service.specs.File.{file, head_bytes, head_of, head_order, head_size, head_widths, row_bytes, row_order, row_size, row_widths, rows_bytes, rows_of, rows_said, say_row, write_cases}
use Rattle.service.specs.declared.format.FileRow.{FileRow}
use Rattle.event.specs.Limits.{jobs}
use Rattle.line.specs.LineInCode.{Lines}
use Rattle.line.specs.declared.Line.{Line}
use Rattle.saving.specs.Meaning.{room_after, save_answer}
use Rattle.saving.specs.Promises.{SavedInto}

-- a row is written where the rows left are to go: the others go after it
pub row_put :
    (rows : List Row) (js : List ℕ) (room : List ℕ) (i j at : ℕ) (f : FileRow) → i < length js → get_or js i 0 ≡ j →
    f ≡ say_row j (row_of rows j) → at + row_size ≤ length room →
    laid (laid room at (row_bytes f)) (at + row_size) (rows_bytes (rows_said rows (drop (i + 1) js)))
    ≡ laid room at (rows_bytes (rows_said rows (drop i js)))
unfolding rows_bytes
row_put rows js room i j at f within here said fits =
    let left = rows_bytes (rows_said rows (drop (i + 1) js)) in
    let long : length (row_bytes f) ≡ row_size = length_pack (row_order row_widths) (row_order f) in
    let first : drop i js ≡ j ∷ drop (i + 1) js =
    rw (add-one i) (drop-cons js i 0 within ∙ ap (λ (k : ℕ). k ∷ drop (suc i) js) here) in
    ap (λ (n : ℕ). laid (laid room at (row_bytes f)) (at + n) left) (sym long)
    ∙ laid_laid room at (row_bytes f) left (omega arith)
    ∙ ap (λ (g : FileRow). laid room at (row_bytes g ++ left)) said
    ∙ ap (λ (ks : List ℕ). laid room at (rows_bytes (rows_said rows ks))) (sym first)

-- the rows are laid after the head: the file stands at the front
pub file_put :
    (t : Table) (before middle after : List ℕ) → head_size ≤ length before → middle ≡ over (head_bytes (head_of t)) before →
    after ≡ laid middle head_size (rows_bytes (rows_of t)) → after ≡ over (file t) before
unfolding file
file_put t before middle after room e f =
    let head = head_bytes (head_of t) in
    let rows = rows_bytes (rows_of t) in
    let long : length head ≡ head_size = length_pack (head_order head_widths) (head_order (head_of t)) in
    f
    ∙ ap (λ (l : List ℕ). laid l head_size rows) (e ∙ sym (laid_front before head))
    ∙ ap (λ (n : ℕ). laid (laid before 0 head) n rows) (sym long)
    ∙ ap (λ (n : ℕ). laid (laid before 0 head) n rows) (sym (zero-add (length head)))
    ∙ laid_laid before 0 head rows (omega arith)
    ∙ laid_front before (head ++ rows)

-- a line in code has no more jobs than there are
pub line_fits : (rows : List Row) {l : Line} → Lines rows l → length l.jobs ≡ jobs → l.len ≤ jobs
line_fits rows {l} lines long = omega (arith, lines.number, ap length lines.list, length-take l.len l.jobs)

-- what the first case that applies says
pub saved_is :
    (t : Table) (before : List ℕ) {n : ℕ} {r : Result ℕ Refusal} {after : List ℕ} → First (write_cases (length before) t) n →
    outcome_of r ≡ unless n (length (file t)) → after ≡ keep_unless n before (over (file t) before) → SavedInto t before r after
unfolding save_answer room_after
saved_is t before f a l =
    record { answers = a ∙ outcome_is (length (file t)) f; leaves = l ∙ leaves_is before (over (file t) before) f }
