-- The promises determine what is handed back, and what is left in lent memory.
use Rattle.std.specs.Prelude.{◌≡◌, Result}
use Rattle.desk.specs.Prelude.{List, Refusal, determined, outcome_determined, ℕ}
use Rattle.desk.specs.Promises.{Shows}

pub show_determined :
    {bs before after after' : List ℕ} {r r' : Result ℕ Refusal} → Shows bs before r after → Shows bs before r' after' →
    (r ≡ r') × (after ≡ after')
show_determined p q = (outcome_determined p.answers q.answers, determined p.leaves q.leaves)
