-- What showing a service file promises.
use Rattle.std.specs.Prelude.{ℕ, List, ◌≡◌, Result}
use Rattle.event.specs.Refusals.{outcome_of}
use Rattle.event.specs.declared.refusal.Refusal.{Refusal}
use Rattle.desk.specs.Desk.{room_after, show_answer}

-- Showing these bytes in the room `before` answered r and left `after` there.
pub record Shows (bs before : List ℕ) (r : Result ℕ Refusal) (after : List ℕ) : Type 0 where
  pub answers : outcome_of r ≡ show_answer bs before
  pub leaves : after ≡ room_after bs before
