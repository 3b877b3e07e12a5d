-- One history, computed: it meets every hypothesis of demand 3, with more than T-1 before the opening, a set that waits,
-- three before it of whom two are in its way, a completion that wakes two, and refused events and a later request between.
use Rattle.std.specs.Prelude.{◌++◌, ◌-◌, ◌∷◌, ◌≡◌}
use Rattle.promises.specs.Prelude.{Ask, Beat, Bool, Complete, List, Open, Outcome, Report, Row, Said, Table, Tick, [], ◌∙◌, ahead, all, answer, ap, below, count, course, distinct, false, fine, first, idle, in_way, inside, jobs, keep, leaves, length, lined, live, meet, meets, next, outcome, place, refl, refused, replicate, report, row_in, run, says_wait, says_woke, settled, sound, start_answer, start_table, sym, true, under, union, woken, ℕ}
use Rattle.event.specs.declared.events.Event.{Event}
use Rattle.promises.specs.Demand.Statement.{Demand3, Supposed, after_opening, n, now, p}
use Rattle.promises.proofs.Demand.Holds.{demand3}
use Rattle.promises.specs.History.Words.{completions, lists, partings, tally_of, Arbiter, ours}

-- the tick of that number
abbrev pub at : ℕ → Tick
at t = record { 0 = t }

-- jobs 1, 2 and 3 declare {0, 1}, {1, 2} and {1}, jobs 4 and 5 {3} and {4}
abbrev pub past : List Event
past =
    Open 1 (at 4294967281) 3
    ∷ Open 2 (at 4294967282) 6
    ∷ Open 3 (at 4294967283) 2
    ∷ Open 4 (at 4294967284) 8
    ∷ Open 5 (at 4294967285) 16
    ∷ []

-- after them job 6 opens {0, 2, 5}; 7 opens later
abbrev pub latecomer : Event
latecomer = Open 7 (at 4294967290) 1

-- until 6 has its token, 6 and 5 try what they may not yet, and 4 and 5 complete
abbrev pub until : List Event
until = Ask 6 (at 4294967291) 5 ∷ Complete 5 (at 1) ∷ Complete 4 (at 2) ∷ Complete 5 (at 4) ∷ []

-- since then the clock has gone back once, 3 asks for {1}, 6 asks for {0, 2}, and 1 completes
abbrev pub since : List Event
since = Beat (at 3) ∷ Ask 3 (at 5) 2 ∷ Ask 6 (at 5) 5 ∷ Complete 1 (at 6) ∷ []

-- something of this history, which starts with four tokens and six resources
abbrev pub this {ℓ} : {A : Type ℓ} → (Arbiter → ℕ → ℕ → ℕ → ℕ → List Event → ℕ → Tick → ℕ → List Event → A) → A
this f = f ours 4 6 4294967280 50 past 6 (at 4294967286) 37 (latecomer ∷ until ++ since)

-- ---- Its tables, written out

-- this many turns are given, these are the first rows, and all others are idle
abbrev pub table : ℕ → ℕ → List Row → Table
table last time rows =
    record {
      tokens = 4;
      resources = 6;
      limit = 50;
      time = time;
      last = record { 0 = last };
      rows = rows ++ replicate (jobs - length rows) idle;
    }

-- a row that holds nothing
abbrev pub row : ℕ → ℕ → ℕ → ℕ → Row
row turn declared asked since =
    record { turn = record { 0 = turn }; declared = declared; held = 0; asked = asked; since = since }

-- when 7 has opened: 1 to 4 have the tokens
abbrev pub all_open : Table
all_open =
    table 7 4294967290
    (idle
    ∷ row 1 3 0 0
    ∷ row 2 6 0 0
    ∷ row 3 2 0 0
    ∷ row 4 8 0 0
    ∷ row 5 16 0 4294967285
    ∷ row 6 37 0 4294967286
    ∷ row 7 1 0 4294967290
    ∷ [])

-- when 6 has its token
abbrev pub token_come : Table
token_come =
    table 7 4294967300 (idle ∷ row 1 3 0 0 ∷ row 2 6 0 0 ∷ row 3 2 0 0 ∷ idle ∷ idle ∷ row 6 37 0 0 ∷ row 7 1 0 4294967290 ∷ [])

-- when 1 has completed, and 3 and 6 wait for what they asked
abbrev pub set_waits : Table
set_waits =
    table 7 4294967302
    (idle ∷ idle ∷ row 2 6 0 0 ∷ row 3 2 2 4294967301 ∷ idle ∷ idle ∷ row 6 37 5 4294967301 ∷ row 7 1 0 0 ∷ [])

-- each leads to the next
pub record Tables : Type 0 where
  pub opens : next jobs (this after_opening) latecomer ≡ all_open
  pub comes : run all_open until ≡ token_come
  pub waits : run token_come since ≡ set_waits

pub tables : Tables
unfolding start_table course next leaves first sound all distinct count ahead in_way below inside meet meets settled union
tables = record { opens = refl; comes = refl; waits = refl }

pub now_is : this now ≡ set_waits
unfolding course
now_is =
    ap (λ (t : Table). run t (until ++ since)) tables.opens ∙ ap (λ (t : Table). run t since) tables.comes ∙ tables.waits

-- ---- The hypotheses are met

supposed : this Supposed
unfolding start_answer answer outcome start_table course next leaves first sound all distinct count ahead in_way below inside meet meets
supposed =
    let turn : this n ≡ 6 = refl in
    record { started = refl; accepted = refl; lives = ap (λ (t : Table). (row_in t 6).turn.0) now_is ∙ sym turn }

pub promised : this Demand3
promised = demand3 4 6 4294967280 50 past 6 (at 4294967286) 37 (latecomer ∷ until ++ since) supposed

-- ---- In figures

-- the answers to events, one after another
unfoldable pub answers : Table → List Event → List (Outcome Said)
answers t [] = []
answers t (e ∷ es) = answer jobs t e ∷ answers (next jobs t e) es

-- what the history shows
pub record Shown : Type 0 where
  -- it is opened after five; refused events count for nothing, and the second completion brings the token
  pub behind : this p ≡ 5
  pub told_until : answers all_open until ≡ refused 9 ∷ refused 9 ∷ fine (says_woke 1) ∷ fine (says_woke 1) ∷ []
  pub completed : completions live all_open until ≡ 2
  -- three are then before it, two of them in the way; one of these completes, and the set waits on
  pub before : ahead token_come.rows 6 ≡ 3
  pub way : in_way token_come.rows 6 37 ≡ 2
  pub told_since : answers token_come since ≡ refused 5 ∷ fine says_wait ∷ fine says_wait ∷ fine (says_woke 1) ∷ []
  pub parted : partings 6 token_come since ≡ 1
  -- when the other completes too, it is listed
  pub wakes : lists set_waits (Complete 2 (at 7)) ≡ 3 ∷ 6 ∷ []

pub shown : Shown
unfolding answers tally_of answer outcome start_table course next leaves first sound all distinct count ahead in_way below inside meet meets settled union woken keep lined under place
shown =
    record {
      behind = refl;
      told_until = refl;
      completed = refl;
      before = refl;
      way = refl;
      told_since = refl;
      parted = refl;
      wakes = refl;
    }

-- ---- As far as it can be observed

-- a report of the request of a turn
abbrev pub reporting : ℕ → Bool → Bool → ℕ → ℕ → Outcome Report
reporting turn token waiting ahead way =
    fine (record { turn = record { 0 = turn }; token = token; waiting = waiting; ahead = ahead; in_way = way })

-- what an arbiter reports, lists and leaves along this history; a wrong one fails here
pub record Observed (a : Arbiter) : Type 0 where
  -- two completions are due; a refused one does not count, and after one there is no token
  pub refused_one : a.report (a.next all_open (Complete 5 (at 1))) 6 ≡ reporting 6 false true 5 2
  pub one_gone : a.report (a.next all_open (Complete 4 (at 2))) 6 ≡ reporting 6 false true 4 2
  pub two_gone : a.report (course a.next all_open until) 6 ≡ reporting 6 true false 3 2
  -- one of the two in the way has completed; with the other the job is listed, and its set is held whole
  pub three_gone : a.report set_waits 6 ≡ reporting 6 true true 2 1
  pub listed : a.lists set_waits (Complete 2 (at 7)) ≡ 3 ∷ 6 ∷ []
  pub held : (row_in (a.next set_waits (Complete 2 (at 7))) 6).held ≡ 5

-- ours, in whose place wrong ones are tried
abbrev tried : Arbiter
tried = record { answer = ours.answer; next = ours.next; lists = ours.lists; report = ours.report }

pub observed : Observed tried
unfolding answer report next leaves outcome first sound all distinct count ahead in_way below inside meet meets settled union woken keep lined under place course
observed = record { refused_one = refl; one_gone = refl; two_gone = refl; three_gone = refl; listed = refl; held = refl }
