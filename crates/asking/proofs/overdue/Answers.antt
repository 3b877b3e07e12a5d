-- A refusal leaves the list; an accepted question lists who is overdue.
use Rattle.std.specs.Prelude.{◌≡◌}
use Rattle.asking.specs.Prelude.{Result, refl, rules, Beat, Bounds, Err, List, Listed, Ok, OverdueAnswered, Refusal, ShortList, Surveyed, Table, ◌∙◌, acceptance_tells, ap, bounds_of, fine, judged, late, late_in, le-ltb, length, lt-ltb, outcome_of, number_of, outcome, outcome_is, outcome_past, over, overdue, overdue_cases, overdue_list, refusal_tells, refusal_cases, refused, saw_sound, seen_in, sound_by_lem, sound_by, subst, surveyed_by, sym, this, time_at, time_from, true, ℕ}
use Rattle.asking.proofs.Surveys.{listed_by, seen_tells}
use Rattle.asking.proofs.overdue.Goals as goal
use Rattle.asking.proofs.overdue.Goals.{After-clock_verdict, After-survey-s}

-- the survey is of this table
surveyed :
    (c : After-survey-s) →
    let a = c.args in
    Surveyed (bounds_of a.table.now) a.table.now.rows 0 c.survey-s.result
surveyed c =
    let a = c.args in
    surveyed_by c.bounds-bounds.result a.table.now c.bounds-bounds.ensures c.survey-s.ensures

-- the verdict is that of the table
judges :
    (c : After-clock_verdict) →
    let a = c.args in
    outcome_of c.clock_verdict.result
    ≡ outcome (refusal_cases (seen_in a.table.now 0) (Beat a.tick)) (time_at a.table.now a.tick.0)
judges c =
    let a = c.args in
    c.clock_verdict.ensures
    ∙ seen_tells a.table.now (Beat a.tick) c.survey-s.result (surveyed_by c.bounds-bounds.result a.table.now c.bounds-bounds.ensures c.survey-s.ensures)
    (λ s. time_from s.time a.tick.0)

-- a refusal is answered, and leaves the list as it was
refuses :
    {A : Type 0} (t : Table) (tick : ℕ) (before : List ℕ) (r : Refusal) (a : A) {o : Result ℕ Refusal} → o ≡ Err r →
    refused (number_of r) ≡ outcome (overdue_cases (length before) t tick) a → OverdueAnswered t tick before o before
unfolding overdue overdue_list
refuses t tick before r a is v =
    let told = refusal_tells (overdue_cases (length before) t tick) a (number_of r) (sym v) in
    record {
      says = ap outcome_of is ∙ sym (told.1 (length (late t tick)));
      lists = sym ((refusal_tells {B = List ℕ} (overdue_cases (length before) t tick) a (number_of r) (sym v)).2 before (over (late t tick) before));
    }

-- an accepted question is answered with how many are listed
accepts :
    (t : Table) (tick : ℕ) (before after : List ℕ) (n x : ℕ) → fine x ≡ outcome (overdue_cases (length before) t tick) (time_at t tick) →
    Listed (late_in t.tokens t.limit x t.rows) before n after → OverdueAnswered t tick before (Ok n) after
unfolding overdue overdue_list
accepts t tick before after n x v listed =
    let told = acceptance_tells {B = ℕ} (overdue_cases (length before) t tick) (time_at t tick) x (sym v) in
    let same : late_in t.tokens t.limit x t.rows ≡ late t tick =
    ap (λ (time : ℕ). late_in t.tokens t.limit time t.rows) (sym told.1) in
    record {
      says = ap fine (listed.told ∙ ap length same) ∙ sym (told.2 (length (late t tick)));
      lists =
          listed.left ∙ ap (λ (xs : List ℕ). over xs before) same
          ∙ sym ((acceptance_tells {B = List ℕ} (overdue_cases (length before) t tick) (time_at t tick) x (sym v)).3 before (over (late t tick) before));
    }

pub returns-then-late-lt-JOBS : goal.returns-then-late-lt-JOBS
returns-then-late-lt-JOBS c =
    let a = c.args in
    refuses a.table.now a.tick.0 a.late.now ShortList (time_at a.table.now a.tick.0) refl (outcome_is _ (this (lt-ltb _ _ c.if-late-lt-JOBS.true)))

pub list_late-requires : goal.list_late-requires
list_late-requires c =
    let a = c.args in
    let v = judged c.in_ok-time.was (judges (goal.at.list_late-requires c).After-clock_verdict) in
    let ok = sound_by_lem a.table.now ∙ saw_sound (seen_in a.table.now 0) (Beat a.tick) _ _ v in record {
      lines = (
        ((surveyed (goal.at.list_late-requires c).After-survey-s).known ok).lines,
        subst (λ (b : Bounds). sound_by b a.table.now.rows ≡ true) (sym c.bounds-bounds.ensures) ok,
      );
      jobs_in_bounds = c.if-late-lt-JOBS.false;
    }

pub returns-in_err-time : goal.returns-in_err-time
returns-in_err-time c =
    let a = c.args in
    let is : c.from_residual.result ≡ Err c.in_err-time.field-0.0 = search rules in
    refuses a.table.now a.tick.0 a.late.now c.in_err-time.field-0.0 (time_at a.table.now a.tick.0) is
    (judged c.in_err-time.was (judges (goal.at.returns-in_err-time c).After-clock_verdict)
    ∙ outcome_past _ _ _ _ (le-ltb _ _ c.if-late-lt-JOBS.false))

pub returns : goal.returns
returns c =
    let a = c.args in
    let v = judged c.in_ok-time.was (judges (goal.at.returns c).After-clock_verdict) in
    accepts a.table.now a.tick.0 a.late.now _ _ _
    (v ∙ outcome_past _ _ _ _ (le-ltb _ _ c.if-late-lt-JOBS.false))
    (listed_by c.bounds-bounds.result a.table.now c.bounds-bounds.ensures a.table.now.rows _
    c.list_late.ensures)
