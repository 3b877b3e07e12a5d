-- A table with numbers out of range, an idle row that is not zero or a walk that finds nothing is not sound; of every other one
-- the walk along its line tells.
use Rattle.pass.specs.Prelude.{sym, ◌∙◌}
use Rattle.pass.specs.SurveyLaws.{not_zeroed, out_of_range, strayed, surveyed}
use Rattle.pass.proofs.whole.survey.Goals as goal

pub returns-then-not-numbers_sound : goal.returns-then-not-numbers_sound
returns-then-not-numbers_sound c =
    let a = c.args in
    out_of_range a.b a.rows.now (sym c.numbers_sound.ensures ∙ c.if-not-numbers_sound.true) a.job c.unsound.result
    c.unsound.ensures

pub returns-in_default : goal.returns-in_default
returns-in_default c =
    let a = c.args in
    not_zeroed a.b a.rows.now c.in_default.ensures a.job c.unsound-in_default.result c.unsound-in_default.ensures

pub returns-in_default-walk_of : goal.returns-in_default-walk_of
returns-in_default-walk_of c =
    let a = c.args in
    strayed a.b a.rows.now (sym c.numbers_sound.ensures ∙ c.if-not-numbers_sound.false) c.in-Some.ensures.0 a.job
    c.in_default-walk_of.ensures c.unsound-in_default-walk_of.result c.unsound-in_default-walk_of.ensures

pub returns : goal.returns
returns c =
    let a = c.args in
    surveyed a.b a.rows.now (sym c.numbers_sound.ensures ∙ c.if-not-numbers_sound.false) c.in-Some.ensures.0 a.job
    c.in-Some.line c.in-Some.ensures.1 c.in-Some-walk_of.place c.in-Some-walk_of.ensures c.token.result c.token.ensures
