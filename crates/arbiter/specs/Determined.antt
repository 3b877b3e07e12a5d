-- The promises determine what is handed back, and what is left in lent memory.
use Rattle.std.specs.Prelude.{◌≡◌}
use Rattle.arbiter.specs.Prelude.{Answer, Change, Err, List, Next, Ok, Outcome, Refusal, Report, Result, Table, answer_by, ap, determined, outcome_of, refl, refusal_of_number_of, told_apart, ℕ}
use Rattle.arbiter.specs.Answers.{Said, said_of, says_done, says_granted, says_token, says_wait, says_woke}
use Rattle.arbiter.specs.Promises.{ReportAnswered, OverdueAnswered}
use Rattle.decision.specs.declared.answer.Answer.TheVariants as Answers
use Rattle.event.proofs.AnswerLaws.{outcome_determined}

-- ---- What is said tells what was answered

-- the answer to an event that says this
abbrev told_by : Said → Answer
told_by says_token = Answers.Token
told_by says_granted = Answers.Granted
told_by says_wait = Answers.Wait
told_by says_done = Answers.Done
told_by (says_woke n) = Answers.Woke n

answer_said : (a : Result Answer Refusal) → answer_by Err (λ said. Ok (told_by said)) (said_of a) ≡ a
answer_said (Err r) = ap Err (refusal_of_number_of r)
answer_said (Ok Answers.Token) = refl
answer_said (Ok Answers.Granted) = refl
answer_said (Ok Answers.Wait) = refl
answer_said (Ok Answers.Done) = refl
answer_said (Ok (Answers.Woke n)) = refl

-- so what is said and the table determine what a call on a table returns
pub same_next :
    {said : Outcome Said} {t : Table} {r r' : Next} → said_of r.answer ≡ said → said_of r'.answer ≡ said →
    r.table ≡ t → r'.table ≡ t → r ≡ r'
same_next {r = r} {r' = r'} p p' q q' =
    let answer : r.answer ≡ r'.answer = told_apart said_of (answer_by Err (λ said. Ok (told_by said))) answer_said p p' in
    let table : r.table ≡ r'.table = determined q q' in
    λ i. record { answer = answer i; table = table i }

-- ---- What the calls promise

pub report_determined :
    (t : Table) (j : ℕ) (r r' : Result Report Refusal) → ReportAnswered t j r → ReportAnswered t j r' → r ≡ r'
report_determined t j r r' = outcome_determined

pub late_determined :
    {t : Table} {tick : ℕ} {before after after' : List ℕ} {r r' : Result ℕ Refusal} → OverdueAnswered t tick before r after →
    OverdueAnswered t tick before r' after' → (r ≡ r') × (after ≡ after')
late_determined p q = (outcome_determined p.says q.says, determined p.lists q.lists)

-- ---- What the functions behind them promise

pub decision_determined :
    {o : Outcome Change} {d d' : Result Change Refusal} → outcome_of d ≡ o → outcome_of d' ≡ o → d ≡ d'
decision_determined = outcome_determined
