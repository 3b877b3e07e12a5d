-- The fast test is the list of conditions.
use Rattle.std.specs.Prelude.{◌&&◌}
use Rattle.soundness.specs.Prelude.{◌∙◌, ap, eqb, leb, ltb, sym, ℕ}
use Rattle.soundness.specs.BesideLaws.{holder_beside, tokenless_beside}
use Rattle.soundness.proofs.live_sound.Goals as goal

pub returns-then-token : goal.returns-then-token
returns-then-token c =
    let a = c.args in
    c.holder_sound.ensures
    ∙ holder_beside a.tokens a.time a.r a.s.ahead a.s.claims (sym c.token.ensures ∙ c.if-token.true)

pub returns : goal.returns
returns c =
    let a = c.args in
    ap (λ (n : ℕ). (ltb 0 a.r.declared && eqb n 0) && leb a.r.since a.time) c.union.ensures
    ∙ tokenless_beside a.tokens a.time a.r a.s.ahead a.s.claims (sym c.token.ensures ∙ c.if-token.false)
