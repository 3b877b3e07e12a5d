-- What a promise says of a result determines it.
use Rattle.std.specs.Prelude.{◌≡◌}
use Rattle.event.specs.Prelude.{Err, Ok, Outcome, Refusal, Result, ap, refl, told_apart}
use Rattle.event.specs.Answers.{answer_by}
use Rattle.event.specs.Refusals.{outcome_of}
use Rattle.event.proofs.RefusalLaws.{refusal_of_number_of}

-- a result is the one that says this
pub outcome_said : {A : Type 0} → (r : Result A Refusal) → answer_by Err Ok (outcome_of r) ≡ r
outcome_said (Err r) = ap Err (refusal_of_number_of r)
outcome_said (Ok a) = refl

pub outcome_determined :
    {A : Type 0} {said : Outcome A} {r r' : Result A Refusal} → outcome_of r ≡ said → outcome_of r' ≡ said → r ≡ r'
outcome_determined = told_apart outcome_of (answer_by Err Ok) outcome_said
