-- A table of two requests and its file, byte for byte by computing. The bytes were worked out by hand from the layout in
-- document 02, [1]. Job 5 declares 0, 1 and 3 and holds 0 and 1; job 1 was opened later, declares 0 and 1 and waits for 0.
use Rattle.std.specs.Prelude.{◌++◌, ◌∷◌, ◌≡◌}
use Rattle.service.specs.Prelude.{List, Row, Table, [], ahead, all, any, below, bits, count, digits, distinct, fine, first, idle, in_way, inside, jobs, lined, meet, meets, outcome, pack, place, refl, replicate, row, set, sound, split, true, under, unpack, value, ℕ}
use Rattle.service.specs.File.{ascend, file, once, placed, rows_bytes, rows_in, table_in, table_read}

abbrev holder : Row
holder = record { turn = record { 0 = 2 }; declared = 0b1011; held = 0b0011; asked = 0; since = 0 }

abbrev waiter : Row
waiter = record { turn = record { 0 = 3 }; declared = 0b0011; held = 0; asked = 0b0001; since = 4294967270 }

abbrev two : Table
two =
    record {
      tokens = 2;
      resources = 4;
      limit = 50;
      time = 4294967280;
      last = record { 0 = 3 };
      rows = set (set (replicate jobs idle) 5 holder) 1 waiter;
    }

-- a line each: version, T-1 and R-1; the limit; true time, with the first bit of the last turn after its 63; the other 62
-- bits of the last turn, the count and the zeros
abbrev head_of_two : List ℕ
head_of_two =
    0x10 ∷ 0x43
    ∷ 0 ∷ 0 ∷ 0 ∷ 0x32
    ∷ 0 ∷ 0 ∷ 0 ∷ 0x01 ∷ 0xff ∷ 0xff ∷ 0xff ∷ 0xe0
    ∷ 0 ∷ 0 ∷ 0 ∷ 0 ∷ 0 ∷ 0 ∷ 0 ∷ 0x0c ∷ 0x10
    ∷ []

-- the job is the first six bits, so that turn, declared, held and asked end with the first five bits of a line each; the
-- last byte has the end of the waiting time and the zeros
abbrev holder_bytes : List ℕ
holder_bytes =
    0x14 ∷ 0 ∷ 0 ∷ 0 ∷ 0 ∷ 0 ∷ 0 ∷ 0
    ∷ 0x10 ∷ 0 ∷ 0 ∷ 0 ∷ 0 ∷ 0 ∷ 0 ∷ 0
    ∷ 0x58 ∷ 0 ∷ 0 ∷ 0 ∷ 0 ∷ 0 ∷ 0 ∷ 0
    ∷ 0x18 ∷ 0 ∷ 0 ∷ 0 ∷ 0 ∷ 0 ∷ 0 ∷ 0
    ∷ 0 ∷ 0 ∷ 0 ∷ 0 ∷ 0 ∷ 0 ∷ 0 ∷ 0
    ∷ 0
    ∷ []

abbrev waiter_bytes : List ℕ
waiter_bytes =
    0x04 ∷ 0 ∷ 0 ∷ 0 ∷ 0 ∷ 0 ∷ 0 ∷ 0
    ∷ 0x18 ∷ 0 ∷ 0 ∷ 0 ∷ 0 ∷ 0 ∷ 0 ∷ 0
    ∷ 0x18 ∷ 0 ∷ 0 ∷ 0 ∷ 0 ∷ 0 ∷ 0 ∷ 0
    ∷ 0 ∷ 0 ∷ 0 ∷ 0 ∷ 0 ∷ 0 ∷ 0 ∷ 0
    ∷ 0x08 ∷ 0 ∷ 0 ∷ 0 ∷ 0x0f ∷ 0xff ∷ 0xff ∷ 0xfe
    ∷ 0x60
    ∷ []

abbrev bytes : List ℕ
bytes = head_of_two ++ holder_bytes ++ waiter_bytes

pub worked_sound : sound two ≡ true
unfolding sound distinct ahead in_way count all meets meet inside below
worked_sound = refl

pub worked_file : file two ≡ bytes
unfolding file rows_bytes lined place under pack split bits digits value
worked_file = refl

pub worked_read : table_read bytes ≡ fine two
unfolding table_read table_in rows_in placed ascend once outcome first any unpack row split bits digits value sound distinct ahead in_way count all meets meet inside below
worked_read = refl
