-- What an answer says: the number of a refusal, or its value.
use Rattle.std.specs.Prelude.{ℕ, Err, Ok, Result}
use Rattle.event.specs.Refusals.{number_of}
use Rattle.event.specs.declared.refusal.Refusal.{Refusal}
use Rattle.laws.specs.Cases.{Outcome, refused, fine}
use Rattle.decision.specs.declared.answer.Answer.{Answer}
use Rattle.decision.specs.declared.answer.Answer.TheVariants as Answers

-- the answer to an accepted event: "token", "granted", "wait", simply done, or how many jobs it woke
pub data Said : Type 0 where
  says_token says_granted says_wait says_done : Said
  says_woke : ℕ → Said

-- what each case of an answer says
abbrev pub said_by : Answer → Said
said_by Answers.Token = says_token
said_by Answers.Granted = says_granted
said_by Answers.Wait = says_wait
said_by Answers.Done = says_done
said_by (Answers.Woke n) = says_woke n

-- what the answer to an event or a start says
abbrev pub said_of : Result Answer Refusal → Outcome Said
said_of (Err r) = refused (number_of r)
said_of (Ok a) = fine (said_by a)
