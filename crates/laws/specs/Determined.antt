-- What a promise says determines what is answered: what two calls that keep it hand back is the same.
use Rattle.std.specs.Prelude.{◌≡◌}
use Rattle.laws.specs.Prelude.{ap, sym, ◌∙◌}

-- a promise that the result equals a definition determines it, whatever the definition
pub determined : {A : Type 0} {x r r' : A} → r ≡ x → r' ≡ x → r ≡ r'
determined p q = p ∙ sym q

-- what can be read back can be told apart
pub told_apart :
    {A B : Type 0} (says : A → B) (back : B → A) → ((a : A) → back (says a) ≡ a) → {a a' : A} {b : B} → says a ≡ b → says a' ≡ b →
    a ≡ a'
told_apart says back reads {a} {a'} p q = sym (reads a) ∙ ap back (determined p q) ∙ reads a'
