-- The refusal that a number names.
use Rattle.std.specs.Prelude.{◌-◌, ◌∷◌}
use Rattle.event.specs.Refusals.{number_of}
use Rattle.event.specs.Prelude.{List, [], None, Option, Some, cond, eqb, get_or, ℕ, AlreadyHeld, AlreadyLive, BadStart, BitSet, ClockGoneBack, ClockLeap, EmptySet, NoSuchJob, NoSuchResource, NoToken, NotDeclared, NotHeld, NotLive, Refusal, ShortList, StartOutOfPlace, StillWaiting, TimeSpent, TurnsSpent, UnknownKind, UnknownVersion, UnsoundTable, WrongLength, WrongSize}

-- the refusals in the order of their numbers
unfoldable pub refusals : List Refusal
refusals = BadStart ∷ ShortList ∷ UnsoundTable ∷ NoSuchJob ∷ ClockGoneBack ∷ TimeSpent ∷ AlreadyLive ∷ NotLive ∷ NoToken ∷ StillWaiting ∷ EmptySet ∷ NoSuchResource ∷ NotDeclared ∷ AlreadyHeld ∷ NotHeld ∷ TurnsSpent ∷ WrongLength ∷ UnknownKind ∷ BitSet ∷ StartOutOfPlace ∷ WrongSize ∷ UnknownVersion ∷ ClockLeap ∷ []

-- the refusal so numbered
unfoldable pub refusal_of : ℕ → Refusal
refusal_of n = get_or refusals (n - 1) BadStart

-- the first of these refusals that has the number
abbrev pub refusal_among : List Refusal → ℕ → Option Refusal
refusal_among [] n = None
refusal_among (r ∷ rs) n = cond (eqb n (number_of r)) (Some r) (refusal_among rs n)

-- the refusal of that number, if one has it
abbrev pub refusal_numbered : ℕ → Option Refusal
refusal_numbered = refusal_among refusals
