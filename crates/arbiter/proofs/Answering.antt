-- From an outcome under the cases of an event to its promise: a refusal leaves all as it was, an acceptance does what the
-- event means.
use Rattle.std.specs.Prelude.{◌≡◌}
use Rattle.arbiter.specs.Prelude.{Event, List, Next, Refusal, Table, acceptance_tells, fine, length, number_of, outcome, over, refusal_tells, refused, sym, ℕ, ◌∙◌}
use Rattle.arbiter.specs.Meaning.{accepted, answer, listed, next, said, wakes}
use Rattle.arbiter.specs.Promises.{Answered, AnsweredInto}
use Rattle.arbiter.specs.Effects.{Does, Refuses}
use Rattle.arbiter.specs.Refusals.{cases}

module _ {A : Type 0} (n : ℕ) (t : Table) (e : Event) (a : A) (r : Next) where
  pub refused_answers :
      (refusal : Refusal) → refused (number_of refusal) ≡ outcome (cases n t e) a → Refuses t refusal r → Answered n t e r
  unfolding answer next
  refused_answers refusal v p =
      record {
        says = p.says ∙ sym ((refusal_tells (cases n t e) a (number_of refusal) (sym v)).1 (said t e));
        hands = p.hands ∙ sym ((refusal_tells (cases n t e) a (number_of refusal) (sym v)).2 t (accepted t e));
      }

  pub accepted_answers : (x : A) → fine x ≡ outcome (cases n t e) a → Does (said t e) (accepted t e) r → Answered n t e r
  unfolding answer next
  accepted_answers x v p =
      record {
        says = p.says ∙ sym ((acceptance_tells (cases n t e) a x (sym v)).2 (said t e));
        hands = p.hands ∙ sym ((acceptance_tells (cases n t e) a x (sym v)).3 t (accepted t e));
      }

-- the same with a lent list, which a refusal leaves as it was
module _ {A : Type 0} (t : Table) (e : Event) (a : A) (before : List ℕ) (r : Next) where
  pub refused_answers_into :
      (refusal : Refusal) → refused (number_of refusal) ≡ outcome (cases (length before) t e) a → Refuses t refusal r →
      AnsweredInto t e before r before
  unfolding listed
  refused_answers_into refusal v p =
      record {
        answered = refused_answers (length before) t e a r refusal v p;
        lists = sym ((refusal_tells (cases (length before) t e) a (number_of refusal) (sym v)).2 before (over (wakes t e) before));
      }

  pub accepted_answers_into :
      (after : List ℕ) (x : A) → fine x ≡ outcome (cases (length before) t e) a → Does (said t e) (accepted t e) r →
      after ≡ over (wakes t e) before → AnsweredInto t e before r after
  unfolding listed
  accepted_answers_into after x v p l =
      record {
        answered = accepted_answers (length before) t e a r x v p;
        lists = l ∙ sym ((acceptance_tells (cases (length before) t e) a x (sym v)).3 before (over (wakes t e) before));
      }
