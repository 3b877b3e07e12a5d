-- What the question promises.
use Rattle.std.specs.Prelude.{ℕ, List, Result, ◌≡◌, length}
use Rattle.arbiter.specs.declared.table.Table.{Table}
use Rattle.event.specs.Refusals.{outcome_of}
use Rattle.event.specs.declared.refusal.Refusal.{Refusal}
use Rattle.hindering.specs.Hindering.{hinder_answer, hinder_list}

-- r is how many are in the way of what job j asked for, with the lent list before and after
pub record Hinders (t : Table) (j : ℕ) (before : List ℕ) (r : Result ℕ Refusal) (after : List ℕ) : Type 0 where
  pub says : outcome_of r ≡ hinder_answer (length before) t j
  pub lists : after ≡ hinder_list t j before
