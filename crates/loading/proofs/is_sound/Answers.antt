-- The survey tells it.
use Rattle.loading.specs.Prelude.{Bounds, ap, sound_by, ◌∙◌}
use Rattle.arbiter.specs.ChangeLaws.{sound_by_lem}
use Rattle.loading.proofs.is_sound.Goals as goal

pub returns : goal.returns
returns c =
    let t = c.args.t.now in
    c.survey.ensures.told ∙ ap (λ (b : Bounds). sound_by b t.rows) c.bounds.ensures ∙ sound_by_lem t
