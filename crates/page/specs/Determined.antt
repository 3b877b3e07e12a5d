-- The promises determine what is handed back, and what is left in lent memory.
use Rattle.std.specs.Prelude.{◌≡◌, Result}
use Rattle.page.specs.Prelude.{List, Refusal, Table, determined, outcome_determined, ℕ}
use Rattle.page.specs.Promises.{PutPage}

pub page_determined :
    {t : Table} {before after after' : List ℕ} {r r' : Result ℕ Refusal} → PutPage t before r after → PutPage t before r' after' →
    (r ≡ r') × (after ≡ after')
page_determined p q = (outcome_determined p.answers q.answers, determined p.leaves q.leaves)
