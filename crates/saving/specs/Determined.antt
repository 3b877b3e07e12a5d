-- The promises determine what is handed back, and what is left in lent memory.
use Rattle.std.specs.Prelude.{◌≡◌, Result}
use Rattle.saving.specs.Prelude.{List, Refusal, Table, determined, outcome_determined, ℕ}
use Rattle.saving.specs.Promises.{SavedInto}

pub saved_determined :
    {t : Table} {before after after' : List ℕ} {r r' : Result ℕ Refusal} → SavedInto t before r after → SavedInto t before r' after' →
    (r ≡ r') × (after ≡ after')
saved_determined p q = (outcome_determined p.answers q.answers, determined p.leaves q.leaves)
