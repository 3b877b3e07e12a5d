-- What the calls on a table promise determines what they hand back.
use Rattle.std.specs.Prelude.{◌≡◌}
use Rattle.arbiter.specs.Prelude.{Event, List, Next, Table, determined, ℕ}
use Rattle.arbiter.specs.Determined.{same_next}
use Rattle.arbiter.specs.Promises.{Answered, AnsweredInto, Started}

pub answered_determined : {n : ℕ} {t : Table} {e : Event} {r r' : Next} → Answered n t e r → Answered n t e r' → r ≡ r'
answered_determined p q = same_next p.says q.says p.hands q.hands

pub answered_into_determined :
    {t : Table} {e : Event} {before after after' : List ℕ} {r r' : Next} → AnsweredInto t e before r after →
    AnsweredInto t e before r' after' → (r ≡ r') × (after ≡ after')
answered_into_determined p q = (answered_determined p.answered q.answered, determined p.lists q.lists)

pub started_determined :
    {T R tick limit : ℕ} {r r' : Next} → Started T R tick limit r → Started T R tick limit r' → r ≡ r'
started_determined p q = same_next p.says q.says p.hands q.hands
