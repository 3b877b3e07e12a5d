-- The service file, as document 02 words it under [1].
use Rattle.std.specs.Prelude.{ℕ, zero, suc, ◌+◌, ◌-◌, ◌*◌, Bool, true, not, ◌&&◌, ◌||◌, List, [], ◌∷◌, ◌++◌, map, eqb, ltb, drop, get_or, length, replicate, set}
use Rattle.arbiter.specs.Sound.{sound}
use Rattle.arbiter.specs.declared.table.Table.{Table}
use Rattle.event.specs.Limits.{jobs}
use Rattle.event.specs.Refusals.{refusing}
use Rattle.event.specs.declared.refusal.Refusal.TheVariants.{BitSet, UnknownVersion, UnsoundTable, WrongSize}
use Rattle.fields.specs.Packing.{pack, unpack}
use Rattle.laws.specs.Cases.{Case, Outcome, outcome}
use Rattle.laws.specs.Lists.{any}
use Rattle.rows.specs.Line.{line, row_of}
use Rattle.rows.specs.Order.{idle}
use Rattle.rows.specs.declared.row.Row.{Row}
use Rattle.service.specs.declared.format.FileHead.{FileHead}
use Rattle.service.specs.declared.format.FileRow.{FileRow}

-- the version that is written, and the only one that is read
abbrev pub version : ℕ
version = 1

-- how many bytes the head has
abbrev pub head_size : ℕ
head_size = 23

-- how many bytes a row has
abbrev pub row_size : ℕ
row_size = 41

-- ---- The fields of the head

-- the order in which they stand
abbrev pub head_order : FileHead → List ℕ
head_order h =
    h.version ∷ h.tokens ∷ h.resources ∷ h.limit ∷ h.time ∷ h.last ∷ h.count ∷ h.zero ∷ []

-- the fields by their names again
abbrev pub head_named : List ℕ → FileHead
head_named ns =
    record {
      version = get_or ns 0 0;
      tokens = get_or ns 1 0;
      resources = get_or ns 2 0;
      limit = get_or ns 3 0;
      time = get_or ns 4 0;
      last = get_or ns 5 0;
      count = get_or ns 6 0;
      zero = get_or ns 7 0;
    }

-- their widths in bits
abbrev pub head_widths : FileHead
head_widths =
    record { version = 4; tokens = 6; resources = 6; limit = 32; time = 63; last = 63; count = 7; zero = 3 }

-- what they say of a table
abbrev pub head_of : Table → FileHead
head_of t =
    record {
      version = version;
      tokens = t.tokens - 1;
      resources = t.resources - 1;
      limit = t.limit;
      time = t.time;
      last = t.last.0;
      count = length (line t.rows);
      zero = 0;
    }

-- ---- The fields of a row

-- the order in which they stand
abbrev pub row_order : FileRow → List ℕ
row_order f = f.job ∷ f.turn ∷ f.declared ∷ f.held ∷ f.asked ∷ f.since ∷ f.zero ∷ []

-- the fields by their names again
abbrev pub row_named : List ℕ → FileRow
row_named ns =
    record {
      job = get_or ns 0 0;
      turn = get_or ns 1 0;
      declared = get_or ns 2 0;
      held = get_or ns 3 0;
      asked = get_or ns 4 0;
      since = get_or ns 5 0;
      zero = get_or ns 6 0;
    }

-- their widths in bits
abbrev pub row_widths : FileRow
row_widths = record { job = 6; turn = 63; declared = 64; held = 64; asked = 64; since = 63; zero = 4 }

-- what they say of a job's row
abbrev pub say_row : ℕ → Row → FileRow
say_row j r =
    record {
      job = j;
      turn = r.turn.0;
      declared = r.declared;
      held = r.held;
      asked = r.asked;
      since = r.since;
      zero = 0;
    }

-- the row that they say
abbrev pub row_said : FileRow → Row
row_said f =
    record { turn = record { 0 = f.turn }; declared = f.declared; held = f.held; asked = f.asked; since = f.since }

-- ---- Writing

-- the rows of these jobs
abbrev pub rows_said : List Row → List ℕ → List FileRow
rows_said rows js = map (λ j. say_row j (row_of rows j)) js

-- the live rows of a table, in order of turn
abbrev pub rows_of : Table → List FileRow
rows_of t = rows_said t.rows (line t.rows)

-- the bytes of a head
abbrev pub head_bytes : FileHead → List ℕ
head_bytes h = pack (head_order head_widths) (head_order h)

-- the bytes of a row
abbrev pub row_bytes : FileRow → List ℕ
row_bytes f = pack (row_order row_widths) (row_order f)

-- the bytes of rows, one after the other
unfoldable pub rows_bytes : List FileRow → List ℕ
rows_bytes [] = []
rows_bytes (f ∷ fs) = row_bytes f ++ rows_bytes fs

-- the file of a table
unfoldable pub file : Table → List ℕ
file t = head_bytes (head_of t) ++ rows_bytes (rows_of t)

-- when a table is not written into a room of this many bytes
abbrev pub write_cases : ℕ → Table → List Case
write_cases room t =
    refusing UnsoundTable (not (sound t))
    ∷ refusing WrongSize (ltb room (length (file t)))
    ∷ []

-- ---- What bytes say

-- the head at their front
abbrev pub head_in : List ℕ → FileHead
head_in bs = head_named (unpack (head_order head_widths) bs)

-- the row at their front
abbrev pub row_in : List ℕ → FileRow
row_in bs = row_named (unpack (row_order row_widths) bs)

-- n rows, one after the other
unfoldable pub rows_in : ℕ → List ℕ → List FileRow
rows_in zero bs = []
rows_in (suc n) bs = row_in bs ∷ rows_in n (drop row_size bs)

-- the rows of a file: as many as its head counts
abbrev pub file_rows : List ℕ → List FileRow
file_rows bs = rows_in (head_in bs).count (drop head_size bs)

-- rows of a table with these put in, each at the place of its job
unfoldable pub placed : List Row → List FileRow → List Row
placed rows [] = rows
placed rows (f ∷ fs) = placed (set rows f.job (row_said f)) fs

-- the table of a head and rows
abbrev pub table_of : FileHead → List Row → Table
table_of h rows =
    record {
      tokens = h.tokens + 1;
      resources = h.resources + 1;
      limit = h.limit;
      time = h.time;
      last = record { 0 = h.last };
      rows = rows;
    }

-- the table in a file; a job that has no row there is idle
unfoldable pub table_in : List ℕ → Table
table_in bs = table_of (head_in bs) (placed (replicate jobs idle) (file_rows bs))

-- ---- Reading

-- its version is known
abbrev pub known : List ℕ → Bool
known bs = eqb (head_in bs).version version

-- it is too short for a head, or of a known version and not as long as its head and the rows that it counts
abbrev pub wrong_size : List ℕ → Bool
wrong_size bs =
    ltb (length bs) head_size || (known bs && not (eqb (length bs) (head_size + row_size * (head_in bs).count)))

-- a bit that must be 0 is 1, in the head or in a row
abbrev pub bit_set : List ℕ → Bool
bit_set bs = any (ltb 0) ((head_in bs).zero ∷ map (λ f. f.zero) (file_rows bs))

-- each turn is above the one before, and the first above n
unfoldable pub ascend : ℕ → List FileRow → Bool
ascend n [] = true
ascend n (f ∷ fs) = ltb n f.turn && ascend f.turn fs

-- no job has two rows
unfoldable pub once : List FileRow → Bool
once [] = true
once (f ∷ fs) = not (any (λ g. eqb f.job g.job) fs) && once fs

-- its rows are in order of turn, none has turn 0, no job has two, and its table is sound
abbrev pub good : List ℕ → Bool
good bs = ascend 0 (file_rows bs) && once (file_rows bs) && sound (table_in bs)

-- when bytes are not read
abbrev pub read_cases : List ℕ → List Case
read_cases bs =
    refusing WrongSize (wrong_size bs)
    ∷ refusing UnknownVersion (not (known bs))
    ∷ refusing BitSet (bit_set bs)
    ∷ refusing UnsoundTable (not (good bs))
    ∷ []

-- what bytes are read as
unfoldable pub table_read : List ℕ → Outcome Table
table_read bs = outcome (read_cases bs) (table_in bs)
