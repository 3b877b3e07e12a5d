-- The numbers that bound everything else.
use Rattle.std.specs.Prelude.{ℕ, ◌-◌, ◌^◌}

-- how many jobs there are, and so how many rows
abbrev pub jobs : ℕ
jobs = 64

-- the highest T, and the highest R
abbrev pub most : ℕ
most = 64

-- the highest true time, and the highest turn
abbrev pub highest : ℕ
highest = 2 ^ 63 - 1
