-- What the closure says of a place and a row is that the job there is overdue.
use Rattle.std.specs.Prelude.{◌≡◌}
use Rattle.std.proofs.Common.{rules}
use Rattle.questions.specs.Prelude.{get_or, late_since, ltb, refl, row_of, Bool, Listed, ◌∙◌, ap, keep, line, sound_distinct, sound_limit, subst, ℕ}
use Rattle.questions.specs.InCode.{waits_before}
use Rattle.questions.specs.Late.{late_in}
use Rattle.questions.specs.QuestionLaws.{late_before, late_place}
use Rattle.questions.proofs.along.list_late.Goals as goal

pub in_time_from-from-requires : goal.in_time_from-from-requires
in_time_from-from-requires c = sound_limit _ _ c.requires.lines.1

pub returns : goal.returns
unfolding late_in
returns c =
    let from = c.in_time_from-from in
    let b = c.args.b in
    let rows = c.args.rows.now in
    subst (λ (f : ℕ → Bool). Listed (keep f (line rows)) c.args.late.now c.list_where.result c.list_where.new.list)
    (ap (λ (n : ℕ). waits_before b.tokens n rows) from.ensures
    ∙ late_before b.tokens b.limit c.args.time rows (sound_limit b rows c.requires.lines.1))
    (c.list_where.ensures (waits_before b.tokens from.result rows)
    (λ p within said now.
    let job = get_or (line rows) p 0 in
    let told : late_since (ltb p b.tokens) from.result (row_of rows job) ≡ said = search rules in
    late_place b.tokens from.result rows (sound_distinct b rows c.requires.lines.1) p job within refl ∙ told))
