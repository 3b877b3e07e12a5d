-- What an event that may wake others promises determines the rows, the number returned and the list.
use Rattle.std.specs.Prelude.{◌≡◌}
use Rattle.sweep.specs.Prelude.{List, Row, ℕ}
use Rattle.laws.specs.Determined.{determined}
use Rattle.line.specs.Determined.{listed_determined}
use Rattle.sweep.specs.Sweeping.{Settles, Swept}

pub settles_determined :
    {T : ℕ} {rows : List Row} {k : ℕ} {x : Row} {before after after' : List ℕ} {r r' : Swept} → Settles T rows k x before r after →
    Settles T rows k x before r' after' → (r ≡ r') × (after ≡ after')
settles_determined {r = r} {r' = r'} p q =
    let rows : r.rows ≡ r'.rows = determined p.leaves q.leaves in
    let lists = listed_determined p.lists q.lists in
    (λ i. record { rows = rows i; count = lists.0 i }, lists.1)
