-- What is printed of a table, in ASCII: a line of its numbers, then a line for each live row, in order of turn.
use Rattle.std.specs.Prelude.{ℕ, ◌+◌, ◌*◌, List, [], ◌∷◌, ◌++◌, length}
use Rattle.arbiter.specs.declared.table.Table.{Table}
use Rattle.decimal.specs.Text.{ascii}
use Rattle.event.specs.Limits.{jobs}
use Rattle.lines.specs.Lines.{items}
use Rattle.rows.specs.Line.{line, row_of}
use Rattle.rows.specs.declared.row.Row.{Row}

-- ---- Lines

-- a word, a space before each number, and the line's end
unfoldable pub word_and_numbers : List ℕ → List ℕ → List ℕ
word_and_numbers word ns = word ++ items ns ++ ascii "\n"

-- the first line: T, R, the limit, the time, the last turn, and how many rows are live
abbrev pub head_line : Table → List ℕ
head_line t =
    word_and_numbers (ascii "table")
    (t.tokens ∷ t.resources ∷ t.limit ∷ t.time ∷ t.last.0 ∷ length (line t.rows) ∷ [])

-- the line of a job's row
abbrev pub row_line : ℕ → Row → List ℕ
row_line j r =
    word_and_numbers (ascii "row") (j ∷ r.turn.0 ∷ r.declared ∷ r.held ∷ r.asked ∷ r.since ∷ [])

-- the lines of these jobs
unfoldable pub row_lines : List Row → List ℕ → List ℕ
row_lines rows [] = []
row_lines rows (j ∷ js) = row_line j (row_of rows j) ++ row_lines rows js

-- the lines of the live rows, in order of turn
abbrev pub live_lines : List Row → List ℕ
live_lines rows = row_lines rows (line rows)

-- the page of a table
unfoldable pub page : Table → List ℕ
page t = head_line t ++ live_lines t.rows

-- ---- The room for the longest page

-- a space and a number take at most this many bytes: it has at most 20 digits
abbrev pub number_room : ℕ
number_room = 21

-- a word of k letters and n numbers take at most this many, with the line's end
abbrev pub word_and_numbers_room : ℕ → ℕ → ℕ
word_and_numbers_room k n = k + number_room * n + 1

-- the first line
abbrev pub head_room : ℕ
head_room = word_and_numbers_room 5 6

-- the line of a row
abbrev pub row_room : ℕ
row_room = word_and_numbers_room 3 6

-- a page: every job may have a row
abbrev pub page_room : ℕ
page_room = head_room + row_room * jobs
