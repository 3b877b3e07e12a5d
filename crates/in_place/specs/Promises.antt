-- What the calls in place promise, by name.
use Rattle.std.specs.Prelude.{ℕ, List, ◌≡◌, length}
use Rattle.event.specs.declared.events.Event.{Event}
use Rattle.arbiter.specs.Meaning.{listed}
use Rattle.arbiter.specs.declared.table.Table.{Table}
use Rattle.numbers.specs.Numbers.{event_told, numbers_of}
use Rattle.numbers.specs.declared.EventAnswer.{EventAnswer}

-- event e on the lent table `before`, with a list of n entries lent, was answered r and left `after` there: the numbers and the
-- table of the call by value
pub record InPlace (n : ℕ) (before : Table) (e : Event) (r : EventAnswer) (after : Table) : Type 0 where
  pub told : r ≡ numbers_of (event_told n before e)
  pub left : after ≡ (event_told n before e).table

-- the same, with the lent list before and after
pub record InPlaceInto (before : Table) (e : Event) (list : List ℕ) (r : EventAnswer) (after : Table) (list-after : List ℕ) : Type 0 where
  pub in_place : InPlace (length list) before e r after
  pub lists : list-after ≡ listed before e list
