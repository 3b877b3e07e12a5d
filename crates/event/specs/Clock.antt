-- Ticks and true time, as document 01 words them under "Ticks and turns", and a leap as document 02 [4] does.
use Rattle.std.specs.Prelude.{ℕ, ◌+◌, ◌-◌, ◌%◌, ◌^◌, ◌≤◌, Bool, List, [], ◌∷◌, leb, ltb}
use Rattle.laws.specs.Cases.{Case, Outcome, refused, fine, outcome}
use Rattle.event.specs.Limits.{highest}
use Rattle.event.specs.Refusals.{refusing}
use Rattle.event.specs.declared.refusal.Refusal.{Refusal}
use Rattle.event.specs.declared.refusal.Refusal.TheVariants.{ClockGoneBack, ClockLeap, TimeSpent}

-- the forward difference: how far the tick lies ahead of true time's low 32 bits, around the wrap
abbrev pub difference : ℕ → ℕ → ℕ
difference time tick = (tick + 2 ^ 32 - time % 2 ^ 32) % 2 ^ 32

-- the clock has gone back: the difference is 2^31 or more
abbrev pub gone_back : ℕ → ℕ → Bool
gone_back time tick = leb (2 ^ 31) (difference time tick)

-- an hour in milliseconds
abbrev pub hour : ℕ
hour = 3600000

-- the clock has leapt: the difference is above an hour
abbrev pub leapt : ℕ → ℕ → Bool
leapt time tick = ltb hour (difference time tick)

-- the next true time would lie past the highest
abbrev pub time_spent : ℕ → ℕ → Bool
time_spent time tick = ltb highest (time + difference time tick)

-- what is asked of a tick, in this order
abbrev pub clock_refusals : List Refusal
clock_refusals = ClockGoneBack ∷ ClockLeap ∷ TimeSpent ∷ []

-- the cases of a tick
abbrev pub clock_cases : ℕ → ℕ → List Case
clock_cases time tick =
    refusing ClockGoneBack (gone_back time tick)
    ∷ refusing ClockLeap (leapt time tick)
    ∷ refusing TimeSpent (time_spent time tick)
    ∷ []

-- the next true time, or the refusal
unfoldable pub forward : ℕ → ℕ → Outcome ℕ
forward time tick = outcome (clock_cases time tick) (time + difference time tick)

-- true time after an answer: a refusal moves nothing
abbrev pub time_after : ℕ → Outcome ℕ → ℕ
time_after time (refused k) = time
time_after time (fine n) = n

-- what ticks give, one after another
unfoldable pub forwards : ℕ → List ℕ → List (Outcome ℕ)
forwards time [] = []
forwards time (tick ∷ ticks) = forward time tick ∷ forwards (time_after time (forward time tick)) ticks

-- what the drive's counter shows at a real time
abbrev pub shown : ℕ → ℕ
shown n = n % 2 ^ 32

-- the last of these real times; before any of them, this time
abbrev pub latest : ℕ → List ℕ → ℕ
latest time [] = time
latest time (n ∷ ns) = latest n ns

-- real times, each at most an hour after the one before, none above the highest
pub data Often : ℕ → List ℕ → Type 0 where
  ended : {time : ℕ} → Often time []
  then : {time n : ℕ} {ns : List ℕ} → time ≤ n → n ≤ time + hour → n ≤ highest → Often n ns → Often time (n ∷ ns)
