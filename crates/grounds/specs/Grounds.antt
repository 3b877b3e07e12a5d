-- The cases of an event part by part, as code tests them.
use Rattle.std.specs.Prelude.{ℕ, not, List, [], ◌∷◌, eqb}
use Rattle.event.specs.Clock.{clock_refusals}
use Rattle.event.specs.Events.{actor, of_role}
use Rattle.event.specs.Limits.{highest}
use Rattle.event.specs.Refusals.{cases_by, refusing}
use Rattle.event.specs.declared.refusal.Refusal.TheVariants.{UnsoundTable, NoSuchJob, EmptySet, NoSuchResource, NotDeclared, AlreadyHeld, NotHeld, TurnsSpent}
use Rattle.laws.specs.Cases.{Case}
use Rattle.laws.specs.Sets.{below, inside, meets}
use Rattle.rows.specs.declared.row.Row.{Row}
use Rattle.grounds.specs.Refusals.{Call, applies_to, calling}
use Rattle.request.specs.declared.seen.Seen.{Seen}

-- of a table, a job and a tick
abbrev pub entry_cases : Seen → Call → List Case
entry_cases s c = cases_by (applies_to s c) (UnsoundTable ∷ NoSuchJob ∷ clock_refusals)

-- of the request of a job that acts
abbrev pub actor_cases : Seen → List Case
actor_cases s = cases_by (applies_to s (calling 0 0 0)) (of_role actor)

-- of a set
abbrev pub set_cases : ℕ → ℕ → List Case
set_cases R s = refusing EmptySet (eqb s 0) ∷ refusing NoSuchResource (not (below s R)) ∷ []

-- of the last turn
abbrev pub turn_cases : ℕ → List Case
turn_cases last = refusing TurnsSpent (eqb last highest) ∷ []

-- of the members of a set that is given up or asked for
abbrev pub give_up_cases : Row → ℕ → List Case
give_up_cases r s = refusing NotDeclared (not (inside s r.declared)) ∷ []

-- and of those of an asked set
abbrev pub ask_cases : Row → ℕ → List Case
ask_cases r s = refusing AlreadyHeld (meets s r.held) ∷ []

-- of the members of a released set
abbrev pub release_cases : Row → ℕ → List Case
release_cases r s = refusing NotHeld (not (inside s r.held)) ∷ []
