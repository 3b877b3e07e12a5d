-- What putting a page promises.
use Rattle.std.specs.Prelude.{ℕ, List, ◌≡◌, Result}
use Rattle.arbiter.specs.declared.table.Table.{Table}
use Rattle.event.specs.Refusals.{outcome_of}
use Rattle.event.specs.declared.refusal.Refusal.{Refusal}
use Rattle.page.specs.Meaning.{page_answer, room_after}

-- Putting the page of t into the room `before` answered r and left `after` there.
pub record PutPage (t : Table) (before : List ℕ) (r : Result ℕ Refusal) (after : List ℕ) : Type 0 where
  pub answers : outcome_of r ≡ page_answer t before
  pub leaves : after ≡ room_after t before
