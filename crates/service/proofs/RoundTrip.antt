-- A sound table has one file, and reading that file gives the table.
use Rattle.std.specs.Prelude.{◌&&◌, ◌*◌, ◌++◌, ◌+◌, ◌-◌, ◌<◌, ◌↔◌, ◌∷◌, ◌≡◌, ◌≤◌}
use Rattle.service.specs.Prelude.{BitSet, Bool, Bytes, List, Row, Table, UnknownVersion, UnsoundTable, WrongSize, [], ◌∙◌, acceptance_tells, and-false, and_left, and_right, any, ap, arith, below_drop, case, clear, drop, drop_at, eq-eqb, eqb, eqb-true, false, fine, first, front_packed, idle, jobs, le-ltb, length, length-drop, length_lined_le, length-map, length_pack, length-replicate, line, ltb, map, none_above, not, not-false, number_of, or_clear, outcome_is, pack, past, refl, refused, replicate, row_of, sound, suc, sym, table_sound, take-append-drop, this, true, zero, ℕ}
use Rattle.laws.specs.Chains.{none as nothing}
use Rattle.service.specs.File.{ascend, bit_set, file, file_rows, good, head_bytes, head_in, head_of, head_order, head_size, head_widths, known, once, placed, read_cases, row_order, row_size, row_widths, rows_bytes, rows_in, rows_of, say_row, table_in, table_read, version, wrong_size}
use Rattle.service.specs.FieldsIn.{head_order_lem, row_order_lem}
use Rattle.service.specs.FileLaws.{file_length, head_back, rows_back}
use Rattle.service.specs.PlacedLaws.{length_placed, line_placed, rows_again}
use Rattle.service.specs.Placing.{fits}
use Rattle.service.specs.PlacingLaws.{fits_all, rows_jobs}
use Rattle.service.specs.SoundLaws.{head_fits_sound, placed_whole, rows_fit_sound, rows_in_order}
use Rattle.service.specs.declared.format.FileHead.{FileHead}

-- ---- From a table to its file and back

-- rows of a table have no bit set that must be 0
zeros_said :
    (rows : List Row) (js : List ℕ) → any (ltb 0) (map (λ f. f.zero) (map (λ j. say_row j (row_of rows j)) js)) ≡ false
unfolding any
zeros_said rows [] = refl
zeros_said rows (j ∷ js) = zeros_said rows js

module _ (t : Table) (long : length t.rows ≡ jobs) (ok : sound t ≡ true) where
  -- its head, its rows and its table are those that were written
  head_is : head_in (file t) ≡ head_of t
  unfolding file
  head_is = head_back (head_of t) (rows_bytes (rows_of t)) (head_fits_sound t ok long)

  rows_are : file_rows (file t) ≡ rows_of t
  unfolding file
  rows_are =
      let count : (head_in (file t)).count ≡ length (rows_of t) =
      ap (λ (h : FileHead). h.count) head_is ∙ sym (length-map (line t.rows) (λ j. say_row j (row_of t.rows j))) in
      let behind = drop_at (head_bytes (head_of t)) (rows_bytes (rows_of t)) head_size (length_pack (head_order head_widths) (head_order (head_of t))) in
      (λ i. rows_in (count i) (behind i)) ∙ rows_back (rows_of t) (rows_fit_sound t ok long)

  table_is : table_in (file t) ≡ t
  unfolding table_in
  table_is =
      let p = table_sound t ok in
      let tokens : (head_in (file t)).tokens + 1 ≡ t.tokens = omega (arith, ap (λ (h : FileHead). h.tokens) head_is, p.ranges.tokens.0) in
      let resources : (head_in (file t)).resources + 1 ≡ t.resources =
      omega (arith, ap (λ (h : FileHead). h.resources) head_is, p.ranges.resources.0) in
      λ i. record {
        tokens = tokens i;
        resources = resources i;
        limit = (head_is i).limit;
        time = (head_is i).time;
        last = record { 0 = (head_is i).last };
        rows = (ap (placed (replicate jobs idle)) rows_are ∙ placed_whole t long ok) i;
      }

  -- it is as long as it says
  right_size : wrong_size (file t) ≡ false
  right_size =
      let size = file_length t in
      let counted : length (file t) ≡ head_size + row_size * (head_in (file t)).count = omega (arith, ap (λ (h : FileHead). h.count) head_is) in
      rw (le-ltb (length (file t)) head_size (omega arith), eq-eqb (length (file t)) (head_size + row_size * (head_in (file t)).count) counted)
      (and-false (known (file t)))

  -- reading the file of a sound table gives that table
  pub file_reads : table_read (file t) ≡ fine t
  unfolding table_read any
  file_reads =
      let zeros : bit_set (file t) ≡ false =
      (λ i. any (ltb 0) ((head_is i).zero ∷ map (λ f. f.zero) (rows_are i)))
      ∙ zeros_said t.rows (line t.rows) in
      let is_good : good (file t) ≡ true =
      (λ i. ascend 0 (rows_are i) && once (rows_are i) && sound (table_is i)) ∙ rw (rows_in_order t ok) ok in
      let is_known : known (file t) ≡ true = ap (λ (h : FileHead). eqb h.version version) head_is in
      sym (outcome_is (table_in (file t)) (past right_size (past (ap not is_known) (past zeros (past (ap not is_good) nothing)))))
      ∙ ap fine table_is

-- ---- From bytes to a table and back

-- as many rows as asked for
length_rows_in : (n : ℕ) (bs : List ℕ) → length (rows_in n bs) ≡ n
unfolding rows_in
length_rows_in zero bs = refl
length_rows_in (suc n) bs = ap suc (length_rows_in n (drop row_size bs))

-- bytes of whole rows are those of the rows that they say
rows_packed : (n : ℕ) (bs : List ℕ) → Bytes bs → length bs ≡ row_size * n → rows_bytes (rows_in n bs) ≡ bs
unfolding rows_in rows_bytes
rows_packed zero [] bytes long = refl
rows_packed zero (b ∷ bs) bytes long = absurd (omega arith)
rows_packed (suc n) bs bytes long =
    let ws = row_order row_widths in
    let here = ap (pack ws) (row_order_lem bs) ∙ front_packed ws row_size bs bytes refl (omega arith) in
    let behind = rows_packed n (drop row_size bs) (below_drop 256 row_size bs bytes) (omega (arith, length-drop row_size bs)) in
    (λ i. here i ++ behind i) ∙ take-append-drop row_size bs

module _ (bs : List ℕ) (ordered : (ascend 0 (file_rows bs) && once (file_rows bs)) ≡ true) where
  -- rows in order, of which no job has two, fit into an empty table
  rows_fit : fits 0 (replicate jobs idle) (file_rows bs) ≡ true
  rows_fit = fits_all (file_rows bs) (rows_jobs (head_in bs).count (drop head_size bs)) ∙ ordered

  -- all rows of the file are in line
  rows_counted : length (line (placed (replicate jobs idle) (file_rows bs))) ≡ (head_in bs).count
  rows_counted =
      ap length (line_placed (file_rows bs) (rows_jobs (head_in bs).count (drop head_size bs)) rows_fit)
      ∙ length-map (file_rows bs) (λ f. f.job) ∙ length_rows_in (head_in bs).count (drop head_size bs)

  -- so there are no more than there are jobs
  rows_few : (head_in bs).count ≤ jobs
  rows_few =
      let rows = placed (replicate jobs idle) (file_rows bs) in
      let in_all = length_placed (replicate jobs idle) (file_rows bs) ∙ length-replicate jobs idle in
      omega (arith, rows_counted, length_lined_le rows (length rows))

module _ (bs : List ℕ) (t : Table) (read : table_read bs ≡ fine t) where
  -- what was tested
  accepts : first (read_cases bs) ≡ 0
  unfolding table_read
  accepts = (acceptance_tells {B = ℕ} (read_cases bs) (table_in bs) t read).0

  says : table_in bs ≡ t
  unfolding table_read
  says = (acceptance_tells {B = ℕ} (read_cases bs) (table_in bs) t read).1

  is_known : known bs ≡ true
  unfolding case
  is_known = not-false (known bs) (clear (number_of UnknownVersion) (read_cases bs) refl accepts)

  zeros : bit_set bs ≡ false
  unfolding case
  zeros = clear (number_of BitSet) (read_cases bs) refl accepts

  is_good : good bs ≡ true
  unfolding case
  is_good = not-false (good bs) (clear (number_of UnsoundTable) (read_cases bs) refl accepts)

  ordered : (ascend 0 (file_rows bs) && once (file_rows bs)) ≡ true
  ordered = and_left (ascend 0 (file_rows bs) && once (file_rows bs)) (sound (table_in bs)) is_good

  size : length bs ≡ head_size + row_size * (head_in bs).count
  unfolding case
  size =
      let wrong = clear (number_of WrongSize) (read_cases bs) refl accepts in
      let counted = eqb (length bs) (head_size + row_size * (head_in bs).count) in
      let later = (or_clear (ltb (length bs) head_size) (known bs && not counted) wrong).1 in
      eqb-true (length bs) (head_size + row_size * (head_in bs).count)
      (not-false counted (sym (ap (λ (b : Bool). b && not counted) is_known) ∙ later))

  -- what is read is sound
  pub read_sound : sound t ≡ true
  read_sound =
      ap sound (sym says) ∙ and_right (ascend 0 (file_rows bs) && once (file_rows bs)) (sound (table_in bs)) is_good

  -- it has a row for each job
  pub read_long : length t.rows ≡ jobs
  unfolding table_in
  read_long =
      ap (λ (u : Table). length u.rows) (sym says) ∙ length_placed (replicate jobs idle) (file_rows bs) ∙ length-replicate jobs idle

  -- the file had no more rows than there are jobs
  pub rows_at_most : (head_in bs).count ≤ jobs
  rows_at_most = rows_few bs ordered

  -- its head and its rows are those of the file
  head_again : head_of (table_in bs) ≡ head_in bs
  unfolding table_in
  head_again =
      let h = head_in bs in
      let tokens : h.tokens + 1 - 1 ≡ h.tokens = omega arith in
      let resources : h.resources + 1 - 1 ≡ h.resources = omega arith in
      λ i. record {
        version = sym (eqb-true h.version version is_known) i;
        tokens = tokens i;
        resources = resources i;
        limit = h.limit;
        time = h.time;
        last = h.last;
        count = rows_counted bs ordered i;
        zero = (none_above h.zero (map (λ f. f.zero) (file_rows bs)) zeros).0 i;
      }

  rows_said_lem : rows_of (table_in bs) ≡ file_rows bs
  unfolding table_in
  rows_said_lem =
      rows_again (table_in bs) (file_rows bs) refl (rows_jobs (head_in bs).count (drop head_size bs)) (rows_fit bs ordered)
      (none_above (head_in bs).zero (map (λ f. f.zero) (file_rows bs)) zeros).1

  -- and its file is the bytes that were read
  pub read_files : Bytes bs → file t ≡ bs
  unfolding file
  read_files bytes =
      let ws = head_order head_widths in
      let head = ap head_bytes head_again ∙ ap (pack ws) (head_order_lem bs) ∙ front_packed ws head_size bs bytes refl (omega (arith, size)) in
      let rows =
      ap rows_bytes rows_said_lem
      ∙ rows_packed (head_in bs).count (drop head_size bs) (below_drop 256 head_size bs bytes) (omega (arith, size, length-drop head_size bs)) in
      ap file (sym says) ∙ (λ i. head i ++ rows i) ∙ take-append-drop head_size bs

-- ---- Tables and files go together one to one

-- two sound tables are equal exactly when their files are
pub files_tell :
    (t u : Table) → length t.rows ≡ jobs → length u.rows ≡ jobs → sound t ≡ true → sound u ≡ true →
    (t ≡ u) ↔ (file t ≡ file u)
files_tell t u t-long u-long t-sound u-sound = (ap file, back)
  where
    back : file t ≡ file u → t ≡ u
    back same =
        let read : fine t ≡ fine u = sym (file_reads t t-long t-sound) ∙ ap table_read same ∙ file_reads u u-long u-sound in
        cc

-- ---- More rows than jobs

-- where nothing is refused before, a file with more rows than there are jobs is refused as one of an unsound table
pub too_many_rows :
    (bs : List ℕ) → jobs < (head_in bs).count → wrong_size bs ≡ false → known bs ≡ true → bit_set bs ≡ false →
    table_read bs ≡ refused (number_of UnsoundTable)
unfolding table_read
too_many_rows bs many size is_known zeros =
    sym (outcome_is (table_in bs) (past size (past (ap not is_known) (past zeros (this (ap not (go ordered refl)))))))
  where
    ordered : Bool
    ordered = ascend 0 (file_rows bs) && once (file_rows bs)

    go : (b : Bool) → ordered ≡ b → (b && sound (table_in bs)) ≡ false
    go true e = absurd (omega (arith, rows_few bs e))
    go false e = refl
