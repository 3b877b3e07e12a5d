-- Rows that fit, put into a table, stand in its line as they stand in the file, and are found there again.
use Rattle.std.specs.Prelude.{◌&&◌, ◌++◌, ◌<◌, ◌∷◌, ◌≡◌, ◌≢◌, ◌≤◌}
use Rattle.service.specs.Prelude.{Distinct, List, Row, Table, [], ◌∙◌, ahead, ahead_set, and_left, and_right, any, ap, append-nil, append_snoc, arith, at_set, bit, count, distinct_set, earlier, false, get_or-set_other, get_or-set_same, idle, idle_rows, jobs, le-zero, length, length-append, length-replicate, length-set, line, line_joined, lined, live, ltb, ltb-false, ltb-true, map, none_above, not-true, refl, replicate, row_of, set, set-get_or, set-set, sym, true, turn_earlier, under, ℕ}
use Rattle.service.specs.File.{placed, row_said, rows_of, say_row}
use Rattle.service.specs.Placing.{JobsBelow, UpTo, fits, free}
use Rattle.service.specs.declared.format.FileRow.{FileRow}

-- ---- A row that fits, and the others

-- its turn is above n, its job has no request, and the others fit after it
fits_one :
    (n : ℕ) (rows : List Row) (f : FileRow) (fs : List FileRow) → fits n rows (f ∷ fs) ≡ true →
    (n < f.turn) × ((row_of rows f.job).turn.0 ≡ 0) × (fits f.turn (set rows f.job (row_said f)) fs ≡ true)
unfolding fits
fits_one n rows f fs ok =
    let rest = fits f.turn (set rows f.job (row_said f)) fs in
    let this = and_left (ltb n f.turn && free rows f) rest ok in
    let idles = not-true (live (row_of rows f.job)) (and_right (ltb n f.turn) (free rows f) this) in (
      ltb-true n f.turn (and_left (ltb n f.turn) (free rows f) this),
      le-zero (ltb-false 0 (row_of rows f.job).turn.0 idles),
      and_right (ltb n f.turn && free rows f) rest ok,
    )

-- as many rows as before
pub length_placed : (rows : List Row) (fs : List FileRow) → length (placed rows fs) ≡ length rows
unfolding placed
length_placed rows [] = refl
length_placed rows (f ∷ fs) = length_placed (set rows f.job (row_said f)) fs ∙ length-set rows f.job (row_said f)

-- what was live before stays as it is
placed_keeps :
    (n : ℕ) (rows : List Row) (fs : List FileRow) → fits n rows fs ≡ true → (j : ℕ) → 0 < (row_of rows j).turn.0 →
    row_of (placed rows fs) j ≡ row_of rows j
unfolding placed
placed_keeps n rows [] ok j alive = refl
placed_keeps n rows (f ∷ fs) ok j alive =
    let one = fits_one n rows f fs ok in
    let other : j ≢ f.job = λ e. omega (arith, one.1, ap (λ (k : ℕ). (row_of rows k).turn.0) e) in
    let same = get_or-set_other rows f.job j (row_said f) idle other in
    placed_keeps f.turn (set rows f.job (row_said f)) fs one.2 j (omega (arith, ap (λ (r : Row). r.turn.0) same)) ∙ same

-- the rows of the jobs say again what was put in, where no bit is set that must be 0
placed_say :
    (n : ℕ) (rows : List Row) (fs : List FileRow) → length rows ≡ jobs → JobsBelow fs → fits n rows fs ≡ true →
    any (ltb 0) (map (λ f. f.zero) fs) ≡ false →
    map (λ j. say_row j (row_of (placed rows fs) j)) (map (λ f. f.job) fs) ≡ fs
unfolding placed
placed_say n rows [] long below ok zeros = refl
placed_say n rows (f ∷ fs) long below ok zeros =
    let one = fits_one n rows f fs ok in
    let next = set rows f.job (row_said f) in
    let clear = none_above f.zero (map (λ g. g.zero) fs) zeros in
    let now-there : row_of next f.job ≡ row_said f = get_or-set_same rows f.job (row_said f) idle (omega (arith, long, below.0)) in
    let alive : 0 < (row_of next f.job).turn.0 = omega (arith, one.0, ap (λ (r : Row). r.turn.0) now-there) in
    let still-there = placed_keeps f.turn next fs one.2 f.job alive ∙ now-there in
    let said : say_row f.job (row_said f) ≡ f = λ i.
    record {
      job = f.job;
      turn = f.turn;
      declared = f.declared;
      held = f.held;
      asked = f.asked;
      since = f.since;
      zero = clear.0 i;
    } in
    let others = placed_say f.turn next fs (length-set rows f.job (row_said f) ∙ long) below.1 one.2 clear.1 in
    λ i. (ap (say_row f.job) still-there ∙ said) i ∷ others i

-- ---- The line

module _ (n : ℕ) (rows : List Row) (f : FileRow) (fs : List FileRow) (up : UpTo n rows) (below : f.job < jobs)
    (ok : fits n rows (f ∷ fs) ≡ true) where
  abbrev next : List Row
  next = set rows f.job (row_said f)

  -- what fits_one says of this row, and that its job was idle
  above : n < f.turn
  above = (fits_one n rows f fs ok).0

  within : f.job < length rows
  within = omega (arith, up.long)

  was : row_of rows f.job ≡ idle
  was = up.idles f.job (fits_one n rows f fs ok).1

  apart : Distinct next
  apart =
      distinct_set rows f.job (row_said f) within up.apart (λ k other alive same. omega (arith, above, up.given k, same))

  -- the row that is put in comes last
  joined : line next ≡ line rows ++ f.job ∷ []
  joined =
      let back : set next f.job idle ≡ rows =
      set-set rows f.job (row_said f) idle ∙ ap (set rows f.job) (sym was) ∙ set-get_or rows f.job idle in
      line_joined rows f.job (row_said f) within apart back (omega (arith, above)) (up.behind f.turn above)

  -- after it comes every turn higher than its own
  behind_next : (m : ℕ) → f.turn < m → ahead next m ≡ length (line next)
  behind_next m higher =
      omega (
        arith,
        ahead_set rows f.job (row_said f) within m,
        ap (λ (r : Row). bit (earlier m r)) was,
        ap bit (turn_earlier m (row_said f) (omega (arith, above)) higher),
        up.behind m (omega (arith, above)),
        ap length joined,
        length-append (line rows) (f.job ∷ []),
      )

  -- so the next row finds what this one found
  up_next : UpTo f.turn next
  up_next =
      record {
        long = length-set rows f.job (row_said f) ∙ up.long;
        given =
            at_set (λ k r. r.turn.0 ≤ f.turn) rows f.job (row_said f) within (omega arith)
            (λ k other. omega (arith, above, up.given k));
        idles =
            at_set (λ k r. r.turn.0 ≡ 0 → r ≡ idle) rows f.job (row_said f) within (λ none. absurd (omega (arith, above, none)))
            (λ k other. up.idles k);
        apart = apart;
        behind = behind_next;
      }

-- each stands after those that were there
line_behind :
    (n : ℕ) (rows : List Row) (fs : List FileRow) → UpTo n rows → JobsBelow fs → fits n rows fs ≡ true →
    line (placed rows fs) ≡ line rows ++ map (λ f. f.job) fs
unfolding placed
line_behind n rows [] up below ok = sym (append-nil (line rows))
line_behind n rows (f ∷ fs) up below ok =
    line_behind f.turn (set rows f.job (row_said f)) fs (up_next n rows f fs up below.0 ok) below.1 (fits_one n rows f fs ok).2
    ∙ ap (λ (l : List ℕ). l ++ map (λ g. g.job) fs) (joined n rows f fs up below.0 ok)
    ∙ append_snoc (line rows) f.job (map (λ g. g.job) fs)

-- ---- Put into an empty table

-- a table without requests has given no turn
empty_up : UpTo 0 (replicate jobs idle)
unfolding ahead count lined under
empty_up =
    record {
      long = length-replicate jobs idle;
      given = λ j. omega (arith, ap (λ (r : Row). r.turn.0) (idle_rows jobs j));
      idles = λ j none. idle_rows jobs j;
      apart = λ j k alive same. absurd (omega (arith, ap (λ (r : Row). r.turn.0) (idle_rows jobs j)));
      behind = λ m higher. refl;
    }

-- the line of the table is the jobs in the order in which they came
pub line_placed :
    (fs : List FileRow) → JobsBelow fs → fits 0 (replicate jobs idle) fs ≡ true →
    line (placed (replicate jobs idle) fs) ≡ map (λ f. f.job) fs
unfolding lined under
line_placed fs below ok = line_behind 0 (replicate jobs idle) fs empty_up below ok

-- and the rows that are written of it are those that came
pub rows_again :
    (t : Table) (fs : List FileRow) → t.rows ≡ placed (replicate jobs idle) fs → JobsBelow fs → fits 0 (replicate jobs idle) fs ≡ true →
    any (ltb 0) (map (λ f. f.zero) fs) ≡ false → rows_of t ≡ fs
rows_again t fs is below ok zeros =
    ap (λ (rows : List Row). map (λ j. say_row j (row_of rows j)) (line rows)) is
    ∙ ap (map (λ j. say_row j (row_of (placed (replicate jobs idle) fs) j))) (line_placed fs below ok)
    ∙ placed_say 0 (replicate jobs idle) fs (length-replicate jobs idle) below ok zeros
