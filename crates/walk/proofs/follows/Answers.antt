-- The first test decides where it fails; else the second one does.
use Rattle.std.specs.Prelude.{◌&&◌}
use Rattle.walk.specs.Prelude.{Bool, ◌∙◌, ap, beside_by, holds, meets, sym}
use Rattle.walk.proofs.follows.Goals as goal

pub returns-then-earlier : goal.returns-then-earlier
returns-then-earlier c =
    let a = c.args in
    let rises = sym c.earlier.ensures ∙ c.if-earlier.true in
    c.live_sound.ensures
    ∙ sym (ap (λ (t : Bool). t && holds (beside_by a.b.tokens a.b.time a.r a.s.ahead (meets a.s.claims))) rises)

pub returns-else-earlier : goal.returns-else-earlier
returns-else-earlier c =
    let a = c.args in
    let falls = sym c.earlier.ensures ∙ c.if-earlier.false in
    c.if-earlier.false
    ∙ sym (ap (λ (t : Bool). t && holds (beside_by a.b.tokens a.b.time a.r a.s.ahead (meets a.s.claims))) falls)
