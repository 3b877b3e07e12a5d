-- Each arm is the method of that event; those that wake nobody leave the lent list as it was.
use Rattle.std.specs.Prelude.{◌≡◌}
use Rattle.arbiter.specs.Prelude.{Case, Event, List, Next, Table, [], ap, jobs, leaves, leaves_same, length, outcome, over, refl, sym, ℕ, ◌∙◌}
use Rattle.arbiter.specs.Meaning.{accepted, answer, listed, next, said, wakes}
use Rattle.arbiter.specs.Promises.{Answered, AnsweredInto}
use Rattle.arbiter.specs.Refusals.{cases}
use Rattle.arbiter.proofs.table.Table.apply.Goals as goal

-- an event that wakes nobody and is judged without looking at the lent list leaves it as it was
module _ (t : Table) (e : Event) (out : List ℕ) (r : Next) where
  unlisted : wakes t e ≡ [] → cases jobs t e ≡ cases (length out) t e → Answered jobs t e r → AnsweredInto t e out r out
  unfolding answer next listed over
  unlisted quiet same p =
      record {
        answered =
            record {
              says = p.says ∙ ap (λ (cs : List Case). outcome cs (said t e)) same;
              hands = p.hands ∙ ap (λ (cs : List Case). leaves cs t (accepted t e)) same;
            };
        lists = sym (rw quiet (leaves_same (cases (length out) t e) out));
      }

pub returns-in-Beat : goal.returns-in-Beat
returns-in-Beat c =
    let a = c.args in
    rw c.in-Beat.is (unlisted a.self _ a.woken.now _ refl refl c.beat.ensures)

pub returns-in-Open : goal.returns-in-Open
returns-in-Open c =
    let a = c.args in
    rw c.in-Open.is (unlisted a.self _ a.woken.now _ refl refl c.«open».ensures)

pub returns-in-Ask : goal.returns-in-Ask
returns-in-Ask c =
    let a = c.args in
    rw c.in-Ask.is (unlisted a.self _ a.woken.now _ refl refl c.ask.ensures)

pub returns-in-Release : goal.returns-in-Release
returns-in-Release c =
    let a = c.args in
    rw c.in-Release.is (unlisted a.self _ a.woken.now _ refl refl c.release.ensures)

pub returns-in-Complete : goal.returns-in-Complete
returns-in-Complete c = rw c.in-Complete.is c.complete.ensures

pub returns-in-GiveUp : goal.returns-in-GiveUp
returns-in-GiveUp c = rw c.in-GiveUp.is c.give_up.ensures
