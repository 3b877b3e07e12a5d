-- When a call is refused: document 01's table of refusals, a line for each.
use Rattle.std.specs.Prelude.{ℕ, ◌+◌, Bool, false, not, List, eqb, leb, ltb}
use Rattle.event.specs.Clock.{difference, gone_back, leapt, time_spent}
use Rattle.event.specs.Events.{described, refusals_of}
use Rattle.event.specs.Limits.{highest, jobs}
use Rattle.event.specs.Refusals.{cases_by}
use Rattle.event.specs.declared.events.Kind.{Kind}
use Rattle.event.specs.declared.refusal.Refusal.{Refusal}
use Rattle.event.specs.declared.refusal.Refusal.TheVariants.{BadStart, ShortList, UnsoundTable, NoSuchJob, ClockGoneBack, TimeSpent, AlreadyLive, NotLive, NoToken, StillWaiting, EmptySet, NoSuchResource, NotDeclared, AlreadyHeld, NotHeld, TurnsSpent, WrongLength, UnknownKind, BitSet, StartOutOfPlace, WrongSize, UnknownVersion, ClockLeap}
use Rattle.laws.specs.Cases.{Case}
use Rattle.laws.specs.Sets.{below, inside, meets}
use Rattle.rows.specs.Order.{live}
use Rattle.request.specs.declared.seen.Seen.{Seen}

-- what is handed to a call besides the table; 0 where it has no such part
pub record Call : Type 0 where
  pub job : ℕ
  pub tick : ℕ
  pub set : ℕ

-- the call with these
abbrev pub calling : ℕ → ℕ → ℕ → Call
calling j tick s = record { job = j; tick = tick; set = s }

-- when each refusal applies to a call that sees this of its table: whether it is sound, R, true time, the last turn, the
-- job's row and whether that has a token
abbrev pub applies_to : Seen → Call → Refusal → Bool
applies_to s c UnsoundTable = not s.sound
applies_to s c NoSuchJob = leb jobs c.job
applies_to s c ClockGoneBack = gone_back s.time c.tick
applies_to s c ClockLeap = leapt s.time c.tick
applies_to s c TimeSpent = time_spent s.time c.tick
applies_to s c AlreadyLive = live s.row
applies_to s c NotLive = not (live s.row)
applies_to s c NoToken = not s.token
applies_to s c StillWaiting = ltb 0 s.row.asked
applies_to s c EmptySet = eqb c.set 0
applies_to s c NoSuchResource = not (below c.set s.resources)
applies_to s c NotDeclared = not (inside c.set s.row.declared)
applies_to s c AlreadyHeld = meets c.set s.row.held
applies_to s c NotHeld = not (inside c.set s.row.held)
applies_to s c TurnsSpent = eqb s.last.0 highest
-- not asked of a table: 1 of a start, 2 of a lent list, 17 to 19 of a record, 20 by the replay
applies_to s c BadStart = false
applies_to s c ShortList = false
applies_to s c WrongLength = false
applies_to s c UnknownKind = false
applies_to s c BitSet = false
applies_to s c StartOutOfPlace = false
applies_to s c WrongSize = false
applies_to s c UnknownVersion = false

-- the cases of an event of this kind, apart from those of a lent list
abbrev pub event_cases : Seen → Call → Kind → List Case
event_cases s c k = cases_by (applies_to s c) (refusals_of (described k))

-- the true time that an accepted tick gives
abbrev pub time_from : ℕ → ℕ → ℕ
time_from time tick = time + difference time tick
