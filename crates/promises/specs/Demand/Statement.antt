-- Demand 3 of document 00, part by part: what a request is promised at any moment after its opening.
use Rattle.std.specs.Prelude.{ℕ, ◌+◌, ◌-◌, ◌≤◌, Bool, true, false, not, cond, List, ◌≡◌, eqb, leb}
use Rattle.event.specs.declared.clock.Tick.{Tick}
use Rattle.event.specs.declared.events.Event.{Event}
use Rattle.event.specs.declared.events.Event.TheVariants.{Ask, Complete, GiveUp, Open}
use Rattle.laws.specs.Bools.{bit}
use Rattle.laws.specs.Cases.{case, fine}
use Rattle.laws.specs.Lists.{count}
use Rattle.laws.specs.Sets.{meets, union, without}
use Rattle.rows.specs.Order.{ahead, blocked, earlier, in_way, live, token}
use Rattle.rows.specs.declared.row.Row.{Row}
use Rattle.arbiter.specs.Answers.{says_done, says_granted, says_token, says_wait}
use Rattle.arbiter.specs.Meaning.{course, start_answer, start_table}
use Rattle.arbiter.specs.declared.table.Report.{Report}
use Rattle.arbiter.specs.declared.table.Table.{Table}
use Rattle.event.specs.Events.{names}
use Rattle.event.specs.Limits.{jobs}
use Rattle.arbiter.specs.Refusals.{cases}
use Rattle.promises.specs.History.Words.{Arbiter, Parts, completions_of, given_up_of, heeded_by, in_its_way, parting_by, partings_of, parts_by_own, takes}
use Rattle.arbiter.specs.Sound.{row_in}

-- job j holds the set h and asks for the set a
abbrev pub Has : Table → ℕ → ℕ → ℕ → Type 0
Has t j h a = ((row_in t j).held ≡ h) × ((row_in t j).asked ≡ a)

-- what becomes of the set x that job j's request of turn n, holding h, has asked an arbiter for; t is the table right after
-- the ask
pub record AskedSet (a : Arbiter) (j n x h : ℕ) (t : Table) : Type 0 where
  -- nothing of x is among h
  pub apart : meets x h ≡ false
  -- where no earlier-opened live request still declares a member of x, the whole of x is held at once
  pub at_once : blocked t.rows n x ≡ false → Has t j (union h x) 0
  -- while one does, the whole of x stays asked, and nothing of it is held
  pub waits : (more : List Event) → blocked (course a.next t more).rows n x ≡ true → Has (course a.next t more) j h x
  -- with the event after which none does, the whole of x is held
  pub then :
      (more : List Event) (e : Event) → blocked (course a.next t more).rows n x ≡ true →
      blocked (a.next (course a.next t more) e).rows n x ≡ false → Has (a.next (course a.next t more) e) j (union h x) 0
  -- that event lists the job as woken, once, and none before it does
  pub listed :
      (more : List Event) (e : Event) → blocked (course a.next t more).rows n x ≡ true →
      count (eqb j) (a.lists (course a.next t more) e) ≡ bit (not (blocked (a.next (course a.next t more) e).rows n x))

-- an event names no job whose live request has a turn up to n: a beat, or an event of a job that has no request or a later one
abbrev pub Beside : ℕ → Table → Event → Type 0
Beside n t e = (i : ℕ) → live (row_in t i) ≡ true → (row_in t i).turn.0 ≤ n → names i e ≡ false

-- to the requests of turn up to n an event at t changes nothing: neither their rows, nor who stands before them, nor what
-- is in their way, and it lists none of them as woken
pub record Unmoved (a : Arbiter) (n : ℕ) (t : Table) (e : Event) : Type 0 where
  pub row : (i : ℕ) → live (row_in t i) ≡ true → (row_in t i).turn.0 ≤ n → row_in (a.next t e) i ≡ row_in t i
  pub unlisted : (i : ℕ) → live (row_in t i) ≡ true → (row_in t i).turn.0 ≤ n → count (eqb i) (a.lists t e) ≡ 0
  pub before : (k : ℕ) → k ≤ n → ahead (a.next t e).rows k ≡ ahead t.rows k
  pub way : (k x : ℕ) → k ≤ n → in_way (a.next t e).rows k x ≡ in_way t.rows k x

-- nothing of x is left to job j: it neither declares nor holds any of it, and whatever it asks for with some of it is refused,
-- since 13 applies
pub record GoneForGood (a : Arbiter) (j x : ℕ) (t : Table) : Type 0 where
  pub declared : meets (row_in t j).declared x ≡ false
  pub held : meets (row_in t j).held x ≡ false
  pub not_declared : (at : Tick) (y : ℕ) → meets y x ≡ true → case 13 (cases jobs t (Ask j at y)) ≡ true
  pub refused : (at : Tick) (y : ℕ) → meets y x ≡ true → takes a t (Ask j at y) ≡ false

-- job k's request is out of the way of job j's, and no event of either parts them again
pub record HasParted (j k : ℕ) (t : Table) : Type 0 where
  pub out : in_its_way t j (row_in t k) ≡ false
  pub completes : (at : Tick) → parting_by t j (Complete k at) ≡ 0
  pub gives_up : (at : Tick) (x : ℕ) → parting_by t j (GiveUp k at x) ≡ 0
  pub own : (x : ℕ) → parts_by_own t j x (row_in t k) ≡ false

-- an arbiter; a start with T tokens, R resources, a tick and a limit; any events; an opening by job j; any events since
module _ (a : Arbiter) (T R begin limit : ℕ) (past : List Event) (j : ℕ) (tick : Tick) (s : ℕ) (later : List Event) where
  -- the table when the request is opened
  abbrev pub before : Table
  before = course a.next (start_table T R begin limit) past

  -- right after that
  abbrev pub after_opening : Table
  after_opening = a.next before (Open j tick s)

  -- now
  abbrev pub now : Table
  now = course a.next after_opening later

  -- the request's turn
  abbrev pub n : ℕ
  n = before.last.0 + 1

  -- after how many other live ones it is opened
  abbrev pub p : ℕ
  p = count live before.rows

  -- all that is supposed: the start and the opening are accepted, and the request is still live; of a request that an arbiter
  -- drops nothing is said here, but what `next` makes of a row is no open question (demand 2)
  pub record Supposed : Type 0 where
    pub started : start_answer T R limit ≡ fine says_done
    pub accepted : takes a before (Open j tick s) ≡ true
    pub lives : (row_in now j).turn.0 ≡ n

  -- what is promised; since `later` is any sequence, at every moment while the request is live
  pub record Demand3 : Type 0 where
    -- the token: at once if at most T-1 stand before it, else with the completion that leaves so few;
    -- that event lists the job as woken, once, and none before it does
    pub opening_says : a.answer before (Open j tick s) ≡ fine (cond (leb p (T - 1)) says_token says_wait)
    pub token_comes : token T now.rows n ≡ leb (p - (T - 1)) (completions_of a live after_opening later)
    pub token_reported :
        (r : Report) → a.report now j ≡ fine r → r.token ≡ leb (p - (T - 1)) (completions_of a live after_opening later)
    pub token_listed :
        (e : Event) → token T now.rows n ≡ false →
        count (eqb j) (a.lists now e) ≡ bit (token T (a.next now e).rows n)
    -- the sets: an accepted ask has the token, and waits just where an earlier-opened live request still declares a member
    pub ask_has_token : (at : Tick) (x : ℕ) → takes a now (Ask j at x) ≡ true → token T now.rows n ≡ true
    pub ask_says_lem :
        (at : Tick) (x : ℕ) → takes a now (Ask j at x) ≡ true →
        a.answer now (Ask j at x) ≡ fine (cond (blocked now.rows n x) says_wait says_granted)
    pub ask_granted :
        (at : Tick) (x : ℕ) → takes a now (Ask j at x) ≡ true →
        AskedSet a j n x (row_in now j).held (a.next now (Ask j at x))
    -- what it still declares: what it was opened with, without what its own accepted give ups took out of it
    pub still_declares : (row_in now j).declared ≡ without s (given_up_of a j after_opening later)
    -- those in the way declare something that it still declares: at most T-1 once it has its token, and a later report gives
    -- that number less those of them that have parted from it since
    pub way_bounded : token T now.rows n ≡ true → in_way now.rows n (row_in now j).declared ≤ T - 1
    pub way_reported :
        (since : List Event) (r : Report) → a.report (course a.next now since) j ≡ fine r → r.turn.0 ≡ n →
        r.in_way + partings_of a j now since ≡ in_way now.rows n (row_in now j).declared
    -- whoever parts from it by an accepted event is out of its way with that event
    pub parted_then :
        (k : ℕ) (e : Event) → takes a now e ≡ true → Parts now j k e → in_its_way (a.next now e) j (row_in (a.next now e) k) ≡ false
    -- an earlier-opened request that is not in its way never comes into it, so no event of either lowers the number by it
    pub parted_once :
        (k : ℕ) (since : List Event) → earlier n (row_in now k) ≡ true → in_its_way now j (row_in now k) ≡ false →
        (row_in (course a.next now since) k).turn.0 ≡ (row_in now k).turn.0 → (row_in (course a.next now since) j).turn.0 ≡ n →
        HasParted j k (course a.next now since)
    -- what it gives up is gone as long as it lives
    pub given_up_for_good :
        (at : Tick) (x : ℕ) → takes a now (GiveUp j at x) ≡ true → (since : List Event) →
        (row_in (course a.next (a.next now (GiveUp j at x)) since) j).turn.0 ≡ n →
        GoneForGood a j x (course a.next (a.next now (GiveUp j at x)) since)
    -- no latecomer and no refused event has any part in it
    pub token_by_earlier : token T now.rows n ≡ leb (p - (T - 1)) (completions_of a (earlier n) after_opening later)
    pub later_unseen : (e : Event) → Beside n now e → Unmoved a n now e
    pub refused_before : course a.next (start_table T R begin limit) (heeded_by a (start_table T R begin limit) past) ≡ before
    pub refused_since : course a.next after_opening (heeded_by a after_opening later) ≡ now
    pub refused_uncounted :
        (f : Row → Bool) → completions_of a f after_opening (heeded_by a after_opening later) ≡ completions_of a f after_opening later
    pub refused_unparted : (since : List Event) → partings_of a j now (heeded_by a now since) ≡ partings_of a j now since
