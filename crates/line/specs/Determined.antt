-- What the promises about lines determine.
use Rattle.std.specs.Prelude.{◌≡◌}
use Rattle.line.specs.Prelude.{Line, List, determined, ℕ}
use Rattle.line.specs.LineInCode.{Holds, Listed, jobs_of}

-- of a line, its jobs and their number; what its array has after them is left open, and nothing reads it
pub line_determined : {xs : List ℕ} {l l' : Line} → Holds xs l → Holds xs l' → (l.len ≡ l'.len) × (jobs_of l ≡ jobs_of l')
line_determined p q = (determined p.number q.number, determined p.list q.list)

pub listed_determined :
    {xs before after after' : List ℕ} {n n' : ℕ} → Listed xs before n after → Listed xs before n' after' →
    (n ≡ n') × (after ≡ after')
listed_determined p q = (determined p.told q.told, determined p.left q.left)
