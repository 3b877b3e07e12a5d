-- Answers by what they say.
use Rattle.laws.specs.Cases.{Outcome, fine, refused}
use Rattle.event.specs.RefusalLaws.{refusal_of}
use Rattle.event.specs.declared.refusal.Refusal.{Refusal}

-- the answer with a refusing case and a case for its values that says this
abbrev pub answer_by : {A B : Type 0} → (Refusal → A) → (B → A) → Outcome B → A
answer_by refuses is (refused k) = refuses (refusal_of k)
answer_by refuses is (fine b) = is b
