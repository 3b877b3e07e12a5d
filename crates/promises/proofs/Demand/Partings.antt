-- A history of partings, computed: of three in the way of a request that has its token one completes, one gives up the last
-- that they share, and from one it parts by its own give up; whoever has parted lowers the number no further.
use Rattle.std.specs.Prelude.{◌++◌, ◌∷◌, ◌≡◌}
use Rattle.promises.specs.Prelude.{Ask, Complete, GiveUp, List, Open, Outcome, Report, Row, Table, Tick, [], ahead, all, answer, below, count, course, distinct, false, fine, first, idle, in_way, inside, jobs, keep, leaves, lined, meet, meets, next, outcome, place, refl, refused, report, run, says_wait, says_woke, settled, sound, start_answer, start_table, true, under, union, without, woken, ℕ}
use Rattle.event.specs.declared.events.Event.{Event}
use Rattle.promises.specs.Demand.Statement.{Demand3, Supposed, now}
use Rattle.promises.proofs.Demand.Holds.{demand3}
use Rattle.promises.proofs.Demand.Example.{answers, at, reporting, row, table}
use Rattle.promises.specs.History.Words.{Arbiter, lists, ours, partings, tally_of}

-- jobs 1, 2 and 3 declare {0, 3}, {1, 4} and {2}; after them job 4 opens {0, 1, 2}, and 0 opens {4} later
abbrev past : List Event
past = Open 1 (at 1) 9 ∷ Open 2 (at 2) 18 ∷ Open 3 (at 3) 4 ∷ []

abbrev latecomer : Event
latecomer = Open 0 (at 5) 16

-- something of this history, which starts with four tokens and six resources
abbrev this {ℓ} : {A : Type ℓ} → (Arbiter → ℕ → ℕ → ℕ → ℕ → List Event → ℕ → Tick → ℕ → List Event → A) → A
this f = f ours 4 6 0 50 past 4 (at 4) 7 (latecomer ∷ [])

-- 1 completes, which brings 0 its token; 4 and 0 ask for {1} and {4} and wait, so 4 may give up nothing now
abbrev until_both_wait : List Event
until_both_wait = Complete 1 (at 6) ∷ Ask 4 (at 7) 2 ∷ Ask 0 (at 8) 16 ∷ GiveUp 4 (at 9) 4 ∷ []

-- then 2 gives up {1, 4}, all that it declares
abbrev gives_up_all : Event
gives_up_all = GiveUp 2 (at 10) 18

abbrev others_part : List Event
others_part = until_both_wait ++ gives_up_all ∷ []

-- 2, which has parted, completes; 4 gives up {2} and may not ask for it again; 3, from which it has parted so, completes
abbrev own_parts : List Event
own_parts = Complete 2 (at 11) ∷ GiveUp 4 (at 12) 4 ∷ Ask 4 (at 13) 6 ∷ Complete 3 (at 14) ∷ []

-- ---- Its tables, written out

-- when 0 has opened: 1 to 4 have the tokens
abbrev three_in_way : Table
three_in_way = table 5 5 (row 5 16 0 5 ∷ row 1 9 0 0 ∷ row 2 18 0 0 ∷ row 3 4 0 0 ∷ row 4 7 0 0 ∷ [])

-- a row that asks nothing
abbrev holding : ℕ → ℕ → ℕ → Row
holding turn declared held = record { turn = record { 0 = turn }; declared = declared; held = held; asked = 0; since = 0 }

-- when 2 declares nothing any more: 4 and 0 hold what they asked for
abbrev one_in_way : Table
one_in_way = table 5 10 (holding 5 16 16 ∷ idle ∷ row 2 0 0 0 ∷ row 3 4 0 0 ∷ holding 4 7 2 ∷ [])

-- when all have parted
abbrev none_in_way : Table
none_in_way = table 5 14 (holding 5 16 16 ∷ idle ∷ idle ∷ idle ∷ holding 4 3 2 ∷ [])

-- each leads to the next
pub record Tables : Type 0 where
  pub opens : this now ≡ three_in_way
  pub others : run three_in_way others_part ≡ one_in_way
  pub own : run one_in_way own_parts ≡ none_in_way

pub tables : Tables
unfolding start_table course next leaves first sound all distinct count ahead in_way below inside meet meets settled union without
tables = record { opens = refl; others = refl; own = refl }

-- ---- The hypotheses are met

supposed : this Supposed
unfolding start_answer answer outcome start_table course next leaves first sound all distinct count ahead in_way below inside meet meets
supposed = record { started = refl; accepted = refl; lives = refl }

pub promised : this Demand3
promised = demand3 4 6 0 50 past 4 (at 4) 7 (latecomer ∷ []) supposed

-- ---- In figures

-- what is reported of job 4 after each of these events
unfoldable pub reports : Table → List Event → List (Outcome Report)
reports t [] = []
reports t (e ∷ es) = report (next jobs t e) 4 ∷ reports (next jobs t e) es

-- what the history shows
pub record Shown : Type 0 where
  -- three are in its way, until 1 completes and 2 gives up what they shared; that wakes 4 and then 0, in order of turn
  pub three : report three_in_way 4 ≡ reporting 4 true false 3 3
  pub told_others :
      answers three_in_way others_part ≡ fine (says_woke 1) ∷ fine says_wait ∷ fine says_wait ∷ refused 10 ∷ fine (says_woke 2) ∷ []
  pub falls_by_others :
      reports three_in_way others_part
      ≡ reporting 4 true false 2 2
      ∷ reporting 4 true true 2 2
      ∷ reporting 4 true true 2 2
      ∷ reporting 4 true true 2 2
      ∷ reporting 4 true false 2 1
      ∷ []
  pub two : partings 4 three_in_way others_part ≡ 2
  pub wakes : lists (run three_in_way until_both_wait) gives_up_all ≡ 4 ∷ 0 ∷ []
  -- 2 has parted, and its completion leaves the number at one; its own give up parts it from 3; what it gave up is gone, and
  -- the completion of 3 lowers nothing
  pub told_own : answers one_in_way own_parts ≡ fine (says_woke 0) ∷ fine (says_woke 0) ∷ refused 13 ∷ fine (says_woke 0) ∷ []
  pub falls_by_own :
      reports one_in_way own_parts
      ≡ reporting 4 true false 1 1 ∷ reporting 4 true false 1 0 ∷ reporting 4 true false 1 0 ∷ reporting 4 true false 0 0 ∷ []
  pub one : partings 4 one_in_way own_parts ≡ 1

pub shown : Shown
unfolding answers reports tally_of answer report outcome course next leaves first sound all distinct count ahead in_way below inside meet meets settled union without woken keep lined under place
shown =
    record {
      three = refl;
      told_others = refl;
      falls_by_others = refl;
      two = refl;
      wakes = refl;
      told_own = refl;
      falls_by_own = refl;
      one = refl;
    }
