-- Laws of what is written: how long it is, and that each part is read back.
use Rattle.std.specs.Prelude.{◌*◌, ◌+◌, ◌++◌, ◌∷◌, ◌≡◌}
use Rattle.service.specs.Prelude.{Fit, List, Table, [], ◌∙◌, ap, arith, drop_at, front_unpacked, length, length-append, length-map, length_pack, line, refl, row_of, ℕ}
use Rattle.service.specs.File.{file, head_bytes, head_in, head_named, head_of, head_order, head_size, head_widths, row_bytes, row_in, row_named, row_order, row_size, row_widths, rows_bytes, rows_in, rows_of, say_row}
use Rattle.service.specs.Placing.{Every, RowFits}
use Rattle.service.specs.declared.format.FileHead.{FileHead}
use Rattle.service.specs.declared.format.FileRow.{FileRow}

-- ---- How long

-- this many bytes for each row
pub length_rows : (fs : List FileRow) → length (rows_bytes fs) ≡ row_size * length fs
unfolding rows_bytes
length_rows [] = refl
length_rows (f ∷ fs) =
    omega (arith, length-append (row_bytes f) (rows_bytes fs), length_pack (row_order row_widths) (row_order f), length_rows fs)

-- a head, and a row for each live request
pub file_length : (t : Table) → length (file t) ≡ head_size + row_size * length (line t.rows)
unfolding file
file_length t =
    omega (
      arith,
      length-append (head_bytes (head_of t)) (rows_bytes (rows_of t)),
      length_pack (head_order head_widths) (head_order (head_of t)),
      length_rows (rows_of t),
      length-map (line t.rows) (λ j. say_row j (row_of t.rows j)),
    )

-- ---- What is written is read

-- the head, whatever stands after it
pub head_back : (h : FileHead) (rest : List ℕ) → Fit (head_order head_widths) (head_order h) → head_in (head_bytes h ++ rest) ≡ h
head_back h rest fit = ap head_named (front_unpacked (head_order head_widths) (head_order h) rest fit refl)

-- the rows, one after the other
pub rows_back : (fs : List FileRow) → Every RowFits fs → rows_in (length fs) (rows_bytes fs) ≡ fs
unfolding rows_in rows_bytes
rows_back [] fit = refl
rows_back (f ∷ fs) fit =
    let here : row_in (row_bytes f ++ rows_bytes fs) ≡ f =
    ap row_named (front_unpacked (row_order row_widths) (row_order f) (rows_bytes fs) fit.0 refl) in
    let behind = drop_at (row_bytes f) (rows_bytes fs) row_size (length_pack (row_order row_widths) (row_order f)) in
    λ i. here i ∷ (ap (rows_in (length fs)) behind ∙ rows_back fs fit.1) i
