-- What is promised determines what is handed back.
use Rattle.std.specs.Prelude.{◌≡◌}
use Rattle.loading.specs.Prelude.{Bool, List, Next, Table, same_next, ℕ}
use Rattle.loading.specs.Promises.{Loaded}
use Rattle.loading.specs.Taking.{Judges}

pub loaded_determined : {bs : List ℕ} {r r' : Next} → Loaded bs r → Loaded bs r' → r ≡ r'
loaded_determined p q = same_next p.says q.says p.hands q.hands

pub judged_determined : {t : Table} {ok : Bool} {r r' : Next} → Judges t ok r → Judges t ok r' → r ≡ r'
judged_determined p q = same_next p.says q.says p.hands q.hands
