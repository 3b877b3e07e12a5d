-- What a first part of an event's cases and the rest say together.
use Rattle.std.specs.Prelude.{true, List, ◌++◌, ◌≡◌, Result, Ok, Err}
use Rattle.std.proofs.Common.{◌∙◌, ap, sym}
use Rattle.laws.specs.CaseLaws.{outcome_back, refusal_tells}
use Rattle.laws.specs.Cases.{Case, outcome, positive, refused}
use Rattle.event.specs.Refusals.{number_of, outcome_of}
use Rattle.event.specs.declared.refusal.Refusal.{Refusal}

-- what the first part accepts is refused by the rest
pub by_rest :
    {A B : Type 0} (cs ds : List Case) (a : A) (b : B) {v : Result A Refusal} {w : Result B Refusal} {x : A} {k : Refusal} →
    positive cs ≡ true → outcome_of v ≡ outcome cs a → v ≡ Ok x → outcome_of w ≡ outcome ds b → w ≡ Err k →
    refused (number_of k) ≡ outcome (cs ++ ds) a
by_rest cs ds a b {x = x} some said took says no-more =
    let told = refusal_tells ds b _ (sym says ∙ ap outcome_of no-more) in
    outcome_back cs ds a x _ some (sym (ap outcome_of took) ∙ said) (sym (told.1 x))
