-- The sessions that document 01 marks P, with P3 as document 02 [4] has it and two leaps besides: one table of claims about the
-- meanings, each by computation.
use Rattle.std.specs.Prelude.{◌+◌, ◌-◌, ◌∷◌, ◌≡◌}
use Rattle.promises.specs.Prelude.{Ask, Complete, Open, Release, Table, Tick, [], answer, encode, false, fine, forward, highest, jobs, late, overdue, refused, report, run, says_wait, start_table, true, wakes, ℕ}
use Rattle.event.specs.declared.events.Entry.TheVariants.{Event}

-- the sessions marked P, and a leap, also where true time would pass the highest
pub data Session : Type 0 where
  P1 P2 P3 P4 P5 P6 P7 P8 P9 P10 P11 P12 leap last_leap : Session

-- the tick of that number
abbrev at : ℕ → Tick
at n = record { 0 = n }

-- steps 1 to 5 of the worked listing: job 2 waits for {1}, which job 1 declares
abbrev wrapping : Table
wrapping =
    run (start_table 2 2 4294967280 50)
    (Open 1 (at 4294967281) 3 ∷ Ask 1 (at 4294967281) 1 ∷ Open 2 (at 4294967282) 2 ∷ Ask 2 (at 4294967282) 2 ∷ [])

-- one token, and two requests for {0}
abbrev one_token : Table
one_token = run (start_table 1 1 0 50) (Open 1 (at 1) 1 ∷ Open 2 (at 2) 1 ∷ [])

-- what each session claims
abbrev pub Claim : Session → Type 0
Claim P1 = encode (Event (Open 5 (at 16909060) 9)) ≡ 0x22 ∷ 0x80 ∷ 1 ∷ 2 ∷ 3 ∷ 4 ∷ 0 ∷ 0 ∷ 0 ∷ 0 ∷ 0 ∷ 0 ∷ 0 ∷ 9 ∷ []
Claim P2 = forward 4294967282 5 ≡ fine 4294967301
Claim P3 = forward 4294967282 3599986 ≡ fine (4294967282 + 3600000)
Claim P4 = forward 4294967282 2147483634 ≡ refused 5
Claim P5 = forward 4294967282 4294967282 ≡ fine 4294967282
Claim P6 = (overdue jobs wrapping 35 ≡ fine 0) × (late wrapping 35 ≡ [])
Claim P7 = (overdue jobs wrapping 36 ≡ fine 1) × (late wrapping 36 ≡ 2 ∷ [])
Claim P8 =
    report one_token 2 ≡ fine (record { turn = record { 0 = 2 }; token = false; waiting = true; ahead = 1; in_way = 1 })
Claim P9 =
    report (run one_token (Complete 1 (at 3) ∷ [])) 2
    ≡ fine (record { turn = record { 0 = 2 }; token = true; waiting = false; ahead = 0; in_way = 0 })
Claim P10 =
    report wrapping 2 ≡ fine (record { turn = record { 0 = 2 }; token = true; waiting = true; ahead = 1; in_way = 1 })
Claim P11 = wakes (run wrapping (Open 3 (at 4294967283) 1 ∷ Ask 3 (at 4294967284) 1 ∷ [])) (Complete 1 (at 5)) ≡ 2 ∷ 3 ∷ []
Claim P12 =
    answer jobs
    (run (start_table 2 2 0 50) (Open 1 (at 1) 3 ∷ Open 2 (at 2) 1 ∷ Ask 1 (at 3) 1 ∷ Release 1 (at 4) 1 ∷ []))
    (Ask 2 (at 5) 1)
    ≡ fine says_wait
Claim leap = forward 4294967282 3599987 ≡ refused 23
Claim last_leap = (forward (highest - 5) 3599995 ≡ refused 23) × (forward (highest - 5) 3599994 ≡ refused 6)
