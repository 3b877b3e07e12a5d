-- What is said of accepted events and of rows while the table around them moves on.
use Rattle.std.specs.Prelude.{ℕ, ◌+◌, ◌<◌, ◌≤◌, ◌≡◌, true, false, Bool, List, ◌≢◌}
use Rattle.event.specs.Clock.{forward}
use Rattle.event.specs.declared.clock.Tick.{Tick}
use Rattle.event.specs.declared.events.Event.{Event}
use Rattle.event.specs.declared.events.Event.TheVariants.{Ask, Complete, GiveUp, Open, Release}
use Rattle.laws.specs.Cases.{fine, first, refused}
use Rattle.event.specs.Limits.{jobs}
use Rattle.rows.specs.Order.{ahead, idle, in_way, waiting}
use Rattle.rows.specs.Propositions.{opening_of}
use Rattle.arbiter.specs.Refusals.{cases}
use Rattle.arbiter.specs.declared.table.Table.{Table}
use Rattle.arbiter.specs.Sound.{row_in}
use Rattle.laws.specs.Sets.{union}
use Rattle.rows.specs.declared.row.Row.{Row}
use Rattle.rows.specs.Sweep.{swept_row}
use Rattle.arbiter.specs.Meaning.{accepted, answer, overdue, report}
use Rattle.event.specs.Events.{about, names, set_of}
use Rattle.request.specs.Change.{giving_up}

-- no case refuses the event
abbrev pub Accepts : ℕ → Table → Event → Type 0
Accepts n t e = first (cases n t e) ≡ 0

-- ---- Who acts

-- the request of j may act: there is such a job, its request is live, has a token and asks nothing
pub record Acts (t : Table) (j : ℕ) : Type 0 where
  pub below : j < jobs
  pub alive : 0 < (row_in t j).turn.0
  pub has : ahead t.rows (row_in t j).turn.0 < t.tokens
  pub nothing : (row_in t j).asked ≡ 0

-- ---- The decision

-- Q3 decides on the whole of a set s for row r: where nothing is in the way all of it becomes held and nothing asked,
-- else nothing more is held and all of it is asked
pub data Decided (rows : List Row) (s : ℕ) (r : Row) (held asked : ℕ) : Type 0 where
  grants : in_way rows r.turn.0 s ≡ 0 → held ≡ union r.held s → asked ≡ 0 → Decided rows s r held asked
  waits : 0 < in_way rows r.turn.0 s → held ≡ r.held → asked ≡ s → Decided rows s r held asked

-- ---- The ask

-- an ask that is accepted moves neither turn nor declared set, Q3 decides on the set, and a wait counts from now
pub record Asked (t : Table) (time s : ℕ) (r r' : Row) : Type 0 where
  pub turn : r'.turn.0 ≡ r.turn.0
  pub declared : r'.declared ≡ r.declared
  pub decided : Decided t.rows s r r'.held r'.asked
  pub waits_now : 0 < in_way t.rows r.turn.0 s → r'.since ≡ time
  pub goes_on : in_way t.rows r.turn.0 s ≡ 0 → r'.since ≡ r.since

-- ---- The sweep

-- a sweep moves neither turn nor declared set, and Q3 decides on the asked set; a wait that goes on keeps its time, and no
-- other row has one
pub record Swept (T : ℕ) (rows : List Row) (r r' : Row) : Type 0 where
  pub turn : r'.turn.0 ≡ r.turn.0
  pub declared : r'.declared ≡ r.declared
  pub decided : Decided rows r.asked r r'.held r'.asked
  pub since : waiting T rows r' ≡ true → r'.since ≡ r.since
  pub rests : waiting T rows r' ≡ false → r'.since ≡ 0

-- two lists of rows look alike from turn n: as many stand before it, and as many of those declare any given set
pub record Alike (rows rows' : List Row) (n : ℕ) : Type 0 where
  pub same_ahead : ahead rows n ≡ ahead rows' n
  pub same_way : (x : ℕ) → in_way rows n x ≡ in_way rows' n x

-- u has the numbers of t, and is no earlier
pub record NoEarlier (t u : Table) : Type 0 where
  pub tokens : t.tokens ≡ u.tokens
  pub resources : t.resources ≡ u.resources
  pub time : t.time ≤ u.time
  pub last : t.last.0 ≤ u.last.0

-- from turn n no more stand before it and no more are in the way than before
pub record Clearer (rows rows' : List Row) (n : ℕ) : Type 0 where
  pub less_ahead : ahead rows' n ≤ ahead rows n
  pub less_way : (x : ℕ) → in_way rows' n x ≤ in_way rows n x

-- ---- What becomes of a row

-- after an accepted event a row is the same and looks on alike rows; or the event named it, and it did not wait before;
-- or it stayed when another event might wake it, and the rows were swept
pub data Fate (t : Table) (e : Event) (k : ℕ) : Type 0 where
  same :
      row_in (accepted t e) k ≡ row_in t k → Alike t.rows (accepted t e).rows (row_in t k).turn.0 → Fate t e k
  acted : names k e ≡ true → waiting t.tokens t.rows (row_in t k) ≡ false → Fate t e k
  stayed :
      (about e).wakes ≡ true → (rows : List Row) → row_in (accepted t e) k ≡ swept_row t.tokens rows (row_in t k) →
      Alike rows (accepted t e).rows (row_in t k).turn.0 → Fate t e k

-- ---- Refusal 3

-- no event and no question on a table is refused as 3
pub record NeverUnsound (t : Table) : Type 0 where
  pub event : (n : ℕ) (e : Event) → answer n t e ≢ refused 3
  pub report : (j : ℕ) → report t j ≢ refused 3
  pub overdue : (n tick : ℕ) → overdue n t tick ≢ refused 3

-- ---- A request that has given up all

-- job j's request can neither ask nor release nor give up, and its job cannot open another; it can complete, at any tick that
-- the clock takes, with a lent list that is long enough
pub record OnlyCompletes (t : Table) (j : ℕ) : Type 0 where
  pub open_again : (n : ℕ) (tick : Tick) (s : ℕ) → ¬ Accepts n t (Open j tick s)
  pub ask : (n : ℕ) (tick : Tick) (s : ℕ) → ¬ Accepts n t (Ask j tick s)
  pub release : (n : ℕ) (tick : Tick) (s : ℕ) → ¬ Accepts n t (Release j tick s)
  pub give_up : (n : ℕ) (tick : Tick) (s : ℕ) → ¬ Accepts n t (GiveUp j tick s)
  pub complete :
      (n : ℕ) (tick : Tick) (time : ℕ) → jobs ≤ n → forward t.time tick.0 ≡ fine time → Accepts n t (Complete j tick)

-- ---- What becomes of the turn and the declared set of the row of a job

-- after an accepted event the row of job k keeps turn and declared set; or the event was its own, and it declares the set no
-- more; or the event was its own, and it is idle now; or it was idle, the event was its own, and it has the next turn
pub data Change (t : Table) (e : Event) (k : ℕ) : Type 0 where
  kept : opening_of (row_in (accepted t e) k) ≡ opening_of (row_in t k) → Change t e k
  gave :
      (about e).wakes ≡ true → names k e ≡ true → Acts t k →
      opening_of (row_in (accepted t e) k) ≡ opening_of (giving_up (row_in t k) (set_of e)) → Change t e k
  ended : (about e).wakes ≡ true → names k e ≡ true → Acts t k → row_in (accepted t e) k ≡ idle → Change t e k
  began : names k e ≡ true → (row_in t k).turn.0 ≡ 0 → (row_in (accepted t e) k).turn.0 ≡ t.last.0 + 1 → Change t e k

-- a test by the turn and the declared set of a row, which no idle row passes
pub record ByOpening (f : Row → Bool) : Type 0 where
  pub by_opening : (r : Row) → f (opening_of r) ≡ f r
  pub idle_fails : (r : Row) → r.turn.0 ≡ 0 → f r ≡ false
  -- whoever passes after giving up something passed before
  pub gains_nothing : (r : Row) (s : ℕ) → f (giving_up r s) ≡ true → f r ≡ true

-- such a test that no row of turn n or higher passes
pub record Lower (n : ℕ) (f : Row → Bool) : Type 0 where
  pub opening : ByOpening f
  pub late_fails : (r : Row) → n ≤ r.turn.0 → f r ≡ false
