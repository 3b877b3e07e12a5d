-- The numbers that documents 01 and 02 give the refusals, and cases by the refusals' names.
use Rattle.std.specs.Prelude.{ℕ, Bool, false, ◌||◌, List, [], ◌∷◌, map, eqb, Result, Ok, Err}
use Rattle.laws.specs.Cases.{Case, Outcome, fine, refused, when}
use Rattle.event.specs.declared.refusal.Refusal.{Refusal}
use Rattle.event.specs.declared.refusal.Refusal.TheVariants.{BadStart, ShortList, UnsoundTable, NoSuchJob, ClockGoneBack, TimeSpent, AlreadyLive, NotLive, NoToken, StillWaiting, EmptySet, NoSuchResource, NotDeclared, AlreadyHeld, NotHeld, TurnsSpent, WrongLength, UnknownKind, BitSet, StartOutOfPlace, WrongSize, UnknownVersion, ClockLeap}

-- the number of each refusal
abbrev pub number_of : Refusal → ℕ
number_of BadStart = 1
number_of ShortList = 2
number_of UnsoundTable = 3
number_of NoSuchJob = 4
number_of ClockGoneBack = 5
number_of TimeSpent = 6
number_of AlreadyLive = 7
number_of NotLive = 8
number_of NoToken = 9
number_of StillWaiting = 10
number_of EmptySet = 11
number_of NoSuchResource = 12
number_of NotDeclared = 13
number_of AlreadyHeld = 14
number_of NotHeld = 15
number_of TurnsSpent = 16
number_of WrongLength = 17
number_of UnknownKind = 18
number_of BitSet = 19
number_of StartOutOfPlace = 20
number_of WrongSize = 21
number_of UnknownVersion = 22
number_of ClockLeap = 23

-- what a result says: its value, or the number of its refusal
abbrev pub outcome_of : {A : Type 0} → Result A Refusal → Outcome A
outcome_of (Ok a) = fine a
outcome_of (Err r) = refused (number_of r)

-- the order in which the refusals of a start, an event, a question, and a record that is read or written are tested: by number,
-- but 23 after 5; what a replay and service files test besides has its own order
abbrev pub documented : List ℕ
documented =
    1 ∷ 2 ∷ 3 ∷ 4 ∷ 5 ∷ 23 ∷ 6 ∷ 7 ∷ 8 ∷ 9 ∷ 10 ∷ 11 ∷ 12 ∷ 13 ∷ 14 ∷ 15 ∷ 16 ∷ 17 ∷ 18 ∷ 19 ∷ []

-- the case of a refusal, which applies when b is true
abbrev pub refusing : Refusal → Bool → Case
refusing r b = when (number_of r) b

-- the cases of these refusals, each of which applies when it passes the test
abbrev pub cases_by : (Refusal → Bool) → List Refusal → List Case
cases_by f rs = map (λ r. refusing r (f r)) rs

-- r is one of these refusals
abbrev pub among : Refusal → List Refusal → Bool
among r [] = false
among r (x ∷ rs) = eqb (number_of x) (number_of r) || among r rs
