-- A refusal leaves the table; what an accepted event changes is what it means.
use Rattle.std.specs.Prelude.{◌≡◌}
use Rattle.arbiter.specs.Prelude.{Err, Surveyed, ◌∙◌, ap, arith, job_of, jobs, outcome_of, refl, rules, set, subst, sym}
use Rattle.event.specs.declared.events.Parts.{Parts}
use Rattle.arbiter.specs.Bounded.{bounds_of}
use Rattle.arbiter.specs.ChangeLaws.{Decides}
use Rattle.arbiter.specs.Meaning.{moved}
use Rattle.arbiter.specs.Refusals.{seen_in}
use Rattle.arbiter.proofs.Carrying.{changes_answer, has_row, quiet_refused}
use Rattle.arbiter.proofs.Surveys.{last_seen, surveyed_by}
use Rattle.arbiter.proofs.table.Table.carry.Goals as goal
use Rattle.arbiter.proofs.table.Table.carry.Goals.{After-found, After-survey-s}

-- the survey is of this table
surveyed :
    (c : After-survey-s) → Surveyed (bounds_of c.args.self.now) c.args.self.now.rows (job_of c.args.event) c.survey-s.result
surveyed c =
    subst (λ (p : Parts). Surveyed (bounds_of c.args.self.now) c.args.self.now.rows p.job c.survey-s.result) c.from-job.ensures
    (surveyed_by c.bounds.result c.args.self.now c.bounds.ensures c.survey-s.ensures)

-- and what was found is what the event comes to on it
decides : (c : After-found) → Decides c.args.self.now c.args.event c.found.result
decides c = c.found.ensures c.args.self.now refl (surveyed (goal.at.After-found c).After-survey-s)

pub found-requires : goal.found-requires
found-requires c = last_seen c.args.self.now _ _ (surveyed (goal.at.found-requires c).After-survey-s)

pub returns-in_err-change : goal.returns-in_err-change
returns-in_err-change c =
    let is : c.from_residual.result ≡ Err c.in_err-change.field-0.0 = search rules in
    quiet_refused c.args.self.now c.args.event c.requires (decides (goal.at.returns-in_err-change c).After-found) c.in_err-change.was is

pub bounds-self-job : goal.bounds-self-job
bounds-self-job c =
    let below = has_row (seen_in c.args.self.now (job_of c.args.event)) c.args.event _ _
    (sym (ap outcome_of c.in_ok-change.was) ∙ decides (goal.at.bounds-self-job c).After-found) in
    omega (arith, below, ap (λ (p : Parts). p.job) c.from-job.ensures)

pub returns : goal.returns
returns c =
    let change = c.in_ok-change.change in
    changes_answer jobs c.args.self.now c.args.event c.requires change _
    (sym (ap outcome_of c.in_ok-change.was) ∙ decides (goal.at.returns c).After-found) refl
    (ap (λ (p : Parts). moved c.args.self.now change.time change.last.0 (set c.args.self.now.rows p.job change.row)) c.from-job.ensures)
