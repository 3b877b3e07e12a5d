-- What saving promises.
use Rattle.std.specs.Prelude.{ℕ, List, ◌≡◌, Result}
use Rattle.arbiter.specs.declared.table.Table.{Table}
use Rattle.event.specs.Refusals.{outcome_of}
use Rattle.event.specs.declared.refusal.Refusal.{Refusal}
use Rattle.saving.specs.Meaning.{room_after, save_answer}

-- Saving t into the room `before` answered r and left `after` there.
pub record SavedInto (t : Table) (before : List ℕ) (r : Result ℕ Refusal) (after : List ℕ) : Type 0 where
  pub answers : outcome_of r ≡ save_answer t before
  pub leaves : after ≡ room_after t before
