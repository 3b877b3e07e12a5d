-- What is promised determines what is handed back, and what is left in what was lent.
use Rattle.std.specs.Prelude.{◌≡◌}
use Rattle.hindering.specs.Prelude.{List, Refusal, Result, Table, determined, outcome_determined, ℕ}
use Rattle.hindering.specs.Promises.{Hinders}

pub hinder_determined :
    {t : Table} {j : ℕ} {before after after' : List ℕ} {r r' : Result ℕ Refusal} → Hinders t j before r after →
    Hinders t j before r' after' → (r ≡ r') × (after ≡ after')
hinder_determined p q = (outcome_determined p.says q.says, determined p.lists q.lists)
