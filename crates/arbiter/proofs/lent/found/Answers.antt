-- The decision by what the survey tells is what the event comes to on the table.
use Rattle.arbiter.specs.Prelude.{◌∙◌, ap, ltb, meets, ℕ}
use Rattle.event.specs.declared.events.Parts.{Parts}
use Rattle.arbiter.proofs.Surveys.{comes_to}
use Rattle.arbiter.proofs.lent.found.Goals as goal

pub returns : goal.returns
returns c = λ t same survey.
    let a = c.args in
    c.decide.ensures
    ∙ comes_to t a.event a.s.now survey _ _
    (c.meets-forbidden.ensures ∙ ap (λ (x : Parts). meets a.s.now.standing.claims x.set) c.from.ensures)
    (ap (λ (n : ℕ). ltb a.s.now.line.len n) same)
