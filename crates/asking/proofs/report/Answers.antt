-- The three tests are the three cases, in their order.
use Rattle.std.specs.Prelude.{◌≡◌}
use Rattle.asking.specs.Prelude.{Seen, Surveyed, ◌∙◌, ap, bounds_of, fine, le-leb, live, lt-leb, none, not, outcome_is, past, report, row_in, seen_by_lem, sound, sound_by_lem, surveyed_by, sym, this, true}
use Rattle.asking.proofs.Surveys.{report_is}
use Rattle.asking.proofs.report.Goals as goal
use Rattle.asking.proofs.report.Goals.{After-survey-s}

-- the survey is of this table
surveyed :
    (c : After-survey-s) →
    let a = c.args in
    Surveyed (bounds_of a.table.now) a.table.now.rows a.job c.survey-s.result
surveyed c =
    let a = c.args in
    surveyed_by c.bounds.result a.table.now c.bounds.ensures c.survey-s.ensures

-- it tells whether the table is sound
tells : (c : After-survey-s) → sound c.args.table.now ≡ c.survey-s.result.seen.sound
tells c = sym ((surveyed c).told ∙ sound_by_lem c.args.table.now)

-- and, where it is, the row of the job
same_row :
    (c : After-survey-s) → c.survey-s.result.seen.sound ≡ true →
    live c.survey-s.result.seen.row ≡ live (row_in c.args.table.now c.args.job)
same_row c ok =
    let a = c.args in
    ap (λ (s : Seen). live s.row) (((surveyed c).known (sym (surveyed c).told ∙ ok)).sees ∙ seen_by_lem a.table.now a.job)

pub returns-then-not-s : goal.returns-then-not-s
unfolding report
returns-then-not-s c = outcome_is _ (this (ap not (tells (goal.at.returns-then-not-s c).After-survey-s ∙ c.if-not-s.true)))

pub returns-then-job : goal.returns-then-job
unfolding report
returns-then-job c =
    outcome_is _
    (past (ap not (tells (goal.at.returns-then-job c).After-survey-s ∙ c.if-not-s.false)) (this (le-leb _ _ c.if-job.true)))

pub returns-then-not-live : goal.returns-then-not-live
unfolding report
returns-then-not-live c =
    let ok = c.if-not-s.false in
    outcome_is _
    (past (ap not (tells (goal.at.returns-then-not-live c).After-survey-s ∙ c.if-not-s.false))
    (past (lt-leb _ _ c.if-job.false)
    (this (ap not (sym (same_row (goal.at.returns-then-not-live c).After-survey-s ok) ∙ sym c.live.ensures ∙ c.if-not-live.true)))))

pub in_way-requires : goal.in_way-requires
in_way-requires c =
    ((surveyed (goal.at.in_way-requires c).After-survey-s).known (sym (surveyed (goal.at.in_way-requires c).After-survey-s).told ∙ c.if-not-s.false)).lines

pub returns : goal.returns
unfolding report
returns c =
    let a = c.args in
    let no = c.if-not-s.false in
    let ok = no in
    let known = (surveyed (goal.at.returns c).After-survey-s).known (sym (surveyed (goal.at.returns c).After-survey-s).told ∙ ok) in
    ap fine (report_is a.table.now a.job c.survey-s.result known _ _ c.waiting.ensures c.in_way.ensures)
    ∙ outcome_is _
    (past (ap not (tells (goal.at.returns c).After-survey-s ∙ no))
    (past (lt-leb _ _ c.if-job.false)
    (past
    (ap not (sym (same_row (goal.at.returns c).After-survey-s ok) ∙ sym c.live.ensures ∙ c.if-not-live.false))
    none)))
