-- The promises determine what is handed back, and what is left in lent memory.
use Rattle.std.specs.Prelude.{◌≡◌}
use Rattle.decimal.specs.Prelude.{List, Wrote, sym, ℕ, ◌∙◌}

pub text_determined :
    {before text after after' : List ℕ} {k end end' : ℕ} → Wrote before k text end after → Wrote before k text end' after' →
    (end ≡ end') × (after ≡ after')
text_determined p q = (p.ends ∙ sym q.ends, p.left ∙ sym q.left)
