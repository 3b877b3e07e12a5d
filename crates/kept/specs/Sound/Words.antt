-- A sound table in plain propositions.
use Rattle.std.specs.Prelude.{ℕ, ◌-◌, ◌^◌, ◌<◌, ◌≤◌, true, false, cond, Bool, ◌&&◌, ◌≡◌, List}
use Rattle.laws.specs.Sets.{below, inside, meets}
use Rattle.rows.specs.Order.{ahead, idle, in_way, earlier, live, token}
use Rattle.rows.specs.Propositions.{Distinct}
use Rattle.rows.specs.declared.row.Row.{Row}
use Rattle.arbiter.specs.Sound.{row_in}
use Rattle.event.specs.Limits.{highest, most}
use Rattle.arbiter.specs.declared.table.Table.{Table}

-- ---- The propositions

-- a live row: its turn was given; what it declares is below R, and is something unless it has a token; what it holds and asks
-- is declared, and apart; without a token it has neither; nobody earlier declares what it holds, and somebody earlier some of
-- what it asks; its wait began no later than now, and has no waiting time with a token and nothing asked
pub record LiveRow (t : Table) (r : Row) : Type 0 where
  pub given : r.turn.0 ≤ t.last.0
  pub declares : t.tokens ≤ ahead t.rows r.turn.0 → 0 < r.declared
  pub in_range : below r.declared t.resources ≡ true
  pub held_declared_lem : inside r.held r.declared ≡ true
  pub asked_declared_lem : inside r.asked r.declared ≡ true
  pub apart : meets r.held r.asked ≡ false
  pub holds_by_token : t.tokens ≤ ahead t.rows r.turn.0 → r.held ≡ 0
  pub asks_by_token : t.tokens ≤ ahead t.rows r.turn.0 → r.asked ≡ 0
  pub held_free_lem : in_way t.rows r.turn.0 r.held ≡ 0
  pub asked_blocked_lem : 0 < r.asked → 0 < in_way t.rows r.turn.0 r.asked
  pub waits_since : r.since ≤ t.time
  pub rests : ahead t.rows r.turn.0 < t.tokens → r.asked ≡ 0 → r.since ≡ 0

-- a row is idle and all zero, or live
pub record SoundRow (t : Table) (r : Row) : Type 0 where
  pub idles : r.turn.0 ≡ 0 → r ≡ idle
  pub lives : 0 < r.turn.0 → LiveRow t r

-- T, R and the waiting limit in range
pub record InRange (T R L : ℕ) : Type 0 where
  pub tokens : (1 ≤ T) × (T ≤ most)
  pub resources : (1 ≤ R) × (R ≤ most)
  pub limit : (1 ≤ L) × (L ≤ 2 ^ 32 - 1)

-- a table: numbers in range, no turn shared, every row sound
pub record SoundTable (t : Table) : Type 0 where
  pub ranges : InRange t.tokens t.resources t.limit
  pub time : t.time ≤ highest
  pub last : t.last.0 ≤ highest
  pub distinct : Distinct t.rows
  pub rows : (j : ℕ) → SoundRow t (row_in t j)

-- ---- What a row's soundness depends on

-- tables with the same T, R, true time and last turn
pub record SameNumbers (t u : Table) : Type 0 where
  pub tokens : t.tokens ≡ u.tokens
  pub resources : t.resources ≡ u.resources
  pub time : t.time ≡ u.time
  pub last : t.last.0 ≡ u.last.0

-- a row as turn n looks on it: only live rows of lower turn count
abbrev pub seen : ℕ → Row → Row
seen n r = cond (earlier n r) r idle

-- a live row that has a token
abbrev pub holds_token : ℕ → List Row → Row → Bool
holds_token T rows r = live r && token T rows r.turn.0
