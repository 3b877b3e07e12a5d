-- The names from outside that this crate's definitions and proofs use, passed on by one module.
pub use Rattle.std.specs.Prelude.{◌%◌, ◌+◌, ◌-◌, ◌<◌, ◌^◌, ◌≤◌, suc, zero, ℕ, Bool, ◌||◌, cond, false, true, List, [], ◌∷◌, map, ◌≡◌, refl, eqb, ltb, get_or, Option, Some, None, Result, Ok, Err}
pub use Rattle.std.proofs.lemmas.Bool.{false≢true, lt-leb}
pub use Rattle.std.proofs.Common.{◌∙◌, ap, sym, arith, eqb-true, le-ltb, lt-ltb, ltb-false}
pub use Rattle.laws.specs.BoolLaws.{and_left, and_right}
pub use Rattle.laws.specs.CaseLaws.{acceptance_tells, clear, outcome_is}
pub use Rattle.laws.specs.Cases.{Outcome, fine, positive}
unfoldable pub use Rattle.laws.specs.Cases.{case, first}
pub use Rattle.laws.specs.Chains.{past, this}
pub use Rattle.laws.specs.Determined.{told_apart}
pub use Rattle.laws.specs.ListLaws.{none_above}
unfoldable pub use Rattle.laws.specs.Lists.{all, any}
pub use Rattle.event.specs.declared.clock.Tick.{Tick}
pub use Rattle.event.specs.declared.events.Event.{Event}
pub use Rattle.event.specs.declared.events.Event.TheVariants.{Ask, Beat, Complete, GiveUp, Open, Release}
pub use Rattle.event.specs.declared.events.Kind.{Kind}
pub use Rattle.event.specs.declared.events.Parts.{Parts}
pub use Rattle.event.specs.declared.refusal.Refusal.{Refusal}
pub use Rattle.event.specs.declared.refusal.Refusal.TheVariants.{AlreadyHeld, AlreadyLive, BadStart, BitSet, ClockGoneBack, ClockLeap, EmptySet, NoSuchJob, NoSuchResource, NoToken, NotDeclared, NotHeld, NotLive, ShortList, StartOutOfPlace, StillWaiting, TimeSpent, TurnsSpent, UnknownKind, UnknownVersion, UnsoundTable, WrongLength, WrongSize}
