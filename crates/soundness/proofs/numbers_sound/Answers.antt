-- The tests are the conditions, joined in their order.
use Rattle.std.specs.Prelude.{◌&&◌, ◌∷◌, ◌≡◌}
use Rattle.soundness.specs.Prelude.{Bool, [], ◌∙◌, all, and_assoc, and-true, ap, ap₂, highest, holds, leb, not, not_ltb}
use Rattle.soundness.specs.Conditions.{ranges}
use Rattle.soundness.proofs.numbers_sound.Goals as goal

-- three tests, the last two as conditions
joined : (a b c : Bool) → ((a && b) && c) ≡ (a && holds (b ∷ c ∷ []))
unfolding all
joined a b c = rw (and-true, and_assoc)

pub returns : goal.returns
returns c =
    let b = c.args.b in
    ap₂ (λ (x y : Bool). (x && leb b.time highest) && y) c.in_range.ensures
    (ap not c.earlier.ensures ∙ not_ltb highest b.last.0)
    ∙ joined (holds (ranges b.tokens b.resources b.limit)) (leb b.time highest) (leb b.last.0 highest)
