-- A refusal leaves the table and the list; an accepted event does what it means.
use Rattle.std.specs.Prelude.{◌≡◌}
use Rattle.arbiter.specs.Prelude.{Acts, Bounds, Change, Err, Onward, Settles, Surveyed, ◌∙◌, acceptance_tells, ap, fine, job_of, outcome, outcome_of, refl, rules, row_of, sound_by, subst, sym, true, ℕ}
use Rattle.event.specs.declared.events.Parts.{Parts}
use Rattle.event.specs.declared.refusal.Refusal.TheVariants.{ShortList}
use Rattle.arbiter.specs.Bounded.{bounds_of}
use Rattle.arbiter.specs.ChangeLaws.{Decides, change_on, sound_by_lem}
use Rattle.arbiter.specs.Refusals.{seen_in}
use Rattle.arbiter.specs.Sound.{row_in}
use Rattle.decision.specs.Accepting.{saw_sound}
use Rattle.decision.specs.Changes.{refusal_cases}
use Rattle.arbiter.proofs.Answering.{accepted_answers_into, refused_answers_into}
use Rattle.arbiter.proofs.Carrying.{long_cases, loud_refused, may_act, settling_does, short_cases, writes_onward}
use Rattle.arbiter.proofs.Surveys.{last_seen, line_seen, settled_by, surveyed_by}
use Rattle.arbiter.proofs.table.Table.carry_waking.Goals as goal
use Rattle.arbiter.proofs.table.Table.carry_waking.Goals.{After-found, After-survey-s, In_ok-change}

-- the survey is of this table
surveyed :
    (c : After-survey-s) → Surveyed (bounds_of c.args.self.now) c.args.self.now.rows (job_of c.args.event) c.survey-s.result
surveyed c =
    subst (λ (p : Parts). Surveyed (bounds_of c.args.self.now) c.args.self.now.rows p.job c.survey-s.result) c.from-job.ensures
    (surveyed_by c.bounds-bounds.result c.args.self.now c.bounds-bounds.ensures c.survey-s.ensures)

-- and what was found is what the event comes to on it
decides : (c : After-found) → Decides c.args.self.now c.args.event c.found.result
decides c =
    c.found.ensures c.args.self.now (ap (λ (b : Bounds). b.tokens) c.bounds-bounds.ensures) (surveyed (goal.at.After-found c).After-survey-s)

pub returns-then-woken-lt-JOBS : goal.returns-then-woken-lt-JOBS
returns-then-woken-lt-JOBS c =
    let t = c.args.self.now in
    let e = c.args.event in
    refused_answers_into t e (change_on t e) _ _ ShortList (short_cases t e c.requires _ _ (search rules)) (record { says = refl; hands = refl })

pub found-requires : goal.found-requires
found-requires c = last_seen c.args.self.now _ _ (surveyed (goal.at.found-requires c).After-survey-s)

pub returns-in_err-change : goal.returns-in_err-change
returns-in_err-change c =
    let is : c.from_residual.result ≡ Err c.in_err-change.field-0.0 = search rules in
    loud_refused c.args.self.now c.args.event c.requires (search rules) (decides (goal.at.returns-in_err-change c).After-found)
    c.in_err-change.was is

-- the change is that of the event
goes :
    (c : In_ok-change) →
    fine c.in_ok-change.change
    ≡ outcome (refusal_cases (seen_in c.args.self.now (job_of c.args.event)) c.args.event) (change_on c.args.self.now c.args.event)
goes c = sym (ap outcome_of c.in_ok-change.was) ∙ decides (goal.at.In_ok-change c).After-found

change_is : (c : In_ok-change) → change_on c.args.self.now c.args.event ≡ c.in_ok-change.change
change_is c =
    (acceptance_tells {B = ℕ} (refusal_cases (seen_in c.args.self.now (job_of c.args.event)) c.args.event) (change_on c.args.self.now c.args.event) _
    (sym (goes c))).1

pub settle-count-requires-clause-lines : goal.settle-count-requires-clause-lines
settle-count-requires-clause-lines c =
    let t = c.args.self.now in
    let ok = saw_sound (seen_in t (job_of c.args.event)) c.args.event _ _ (goes (goal.at.settle-count-requires-clause-lines c).In_ok-change) in (
      line_seen t _ _ (surveyed (goal.at.settle-count-requires-clause-lines c).After-survey-s) ok,
      subst (λ (b : Bounds). sound_by b t.rows ≡ true) (sym c.bounds-bounds.ensures) (sound_by_lem t ∙ ok),
    )

pub settle-count-requires-clause-acts : goal.settle-count-requires-clause-acts
settle-count-requires-clause-acts c =
    let t = c.args.self.now in
    let e = c.args.event in
    let gone = goes (goal.at.settle-count-requires-clause-acts c).In_ok-change in
    let ok = saw_sound (seen_in t (job_of e)) e _ _ gone in
    let acts = may_act t e c.requires _ _ gone in
    let job = sym c.from-job.ensures in (
      subst (λ (p : Parts). Acts c.bounds-bounds.result.tokens t.rows p.job) job
          (subst (λ (b : Bounds). Acts b.tokens t.rows (job_of e)) (sym c.bounds-bounds.ensures) acts),
      subst (λ (p : Parts). Onward (row_of t.rows p.job) c.in_ok-change.change.row) job
          (subst (λ (x : Change). Onward (row_in t (job_of e)) x.row)
          (change_is (goal.at.settle-count-requires-clause-acts c).In_ok-change) (writes_onward t e c.requires ok acts)),
      search rules,
    )

pub returns : goal.returns
returns c =
    let t = c.args.self.now in
    let e = c.args.event in
    let change = c.in_ok-change.change in
    let at = (goal.at.returns c).In_ok-change in
    let settles =
    subst (λ (p : Parts). Settles t.tokens t.rows p.job change.row c.args.woken.now (record { rows = c.settle-count.new.rows; count = c.settle-count.result }) c.settle-count.new.woken)
    c.from-job.ensures
    (settled_by c.bounds-bounds.result t c.bounds-bounds.ensures c.settle-count.ensures) in
    let done = settling_does t e c.requires change _ _ _ _ (change_is at) settles refl refl in
    accepted_answers_into t e (change_on t e) _ _ _ change (goes at ∙ sym (long_cases _ t e (change_on t e) (search rules))) done.0 done.1
