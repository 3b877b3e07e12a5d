-- What one record adds to the figures.
use Rattle.std.specs.Prelude.{◌-◌, ◌==◌, if◌then◌else◌}
use Rattle.figures.specs.Prelude.{Err, List, None, Ok, Option, Result, Some, count, fold, jobs, min, replicate, take, ℕ}
use Rattle.arbiter.specs.Meaning.{overdue, overdue_list, report}
use Rattle.arbiter.specs.Sound.{row_in}
use Rattle.arbiter.specs.declared.table.Table.{Table}
use Rattle.decision.specs.declared.answer.Answer.{Answer}
use Rattle.event.specs.Clock.{forward}
use Rattle.event.specs.Events.{shape_of}
use Rattle.event.specs.Refusals.{number_of, outcome_of}
use Rattle.event.specs.declared.events.Kind.{Kind}
use Rattle.event.specs.declared.events.Parts.{Parts}
use Rattle.event.specs.declared.refusal.Refusal.{Refusal}
use Rattle.follow.specs.Follow.{state_of}
use Rattle.follow.specs.Visits.{parts_read, woken_by}
use Rattle.follow.specs.declared.visit.Visit.{Visit}
use Rattle.laws.specs.Cases.{Outcome, fine}
use Rattle.rows.specs.Order.{live}
use Rattle.figures.specs.Sheet.{accepted_at, figures_of, late_at, more, raised, refused_as, refused_once, waited, with_job}
use Rattle.figures.specs.declared.sheet.Figures.{Figures}
use Rattle.figures.specs.declared.sheet.JobFigures.{JobFigures}
use Rattle.figures.specs.declared.sheet.Stamp.{Stamp}

-- the figures after the answer to the record of this number: the first is the start if it was accepted
abbrev pub answered : Figures → ℕ → Result Answer Refusal → ℕ → Figures
answered f number (Err r) time = refused_as f (number_of r)
answered f number (Ok a) time = if number == 1 then record f { from = time } else f

-- those after a table: how many requests are live and how many tokens in use
abbrev pub seen : Figures → Table → Figures
seen f t = raised f (count live t.rows) (min t.tokens (count live t.rows))

-- those after a job was overdue at a record
abbrev pub late_in : Stamp → Figures → ℕ → Figures
late_in at f job = with_job f job (late_at at (figures_of f job))

-- those after the jobs that are overdue were told, with the time that the tick gives; if either is refused, nobody is
abbrev pub told_late : Figures → ℕ → Outcome ℕ → List ℕ → Outcome ℕ → Figures
told_late f number (fine n) list (fine time) = fold (late_in (record { number = number; time = time })) f (take n list)
told_late f number _ list _ = f

-- those after an event: who is overdue at its tick, just before it is taken
abbrev pub with_late : Figures → Visit → ℕ → Figures
with_late f v tick =
    let t = v.before.now in
    told_late f v.number (overdue jobs t tick) (overdue_list t tick (replicate jobs 0)) (forward t.time tick)

-- those of a job after an event of this kind that names it was answered so at a time
abbrev pub answered_to : Kind → Result Answer Refusal → ℕ → JobFigures → JobFigures
answered_to kind (Err r) time j = refused_once j
answered_to kind (Ok a) time j = accepted_at kind time j

-- the figures after an event with these parts, if it names a job
abbrev pub with_named : Figures → Visit → Parts → Figures
with_named f v p =
    let j = figures_of f p.job in
    if (shape_of p.kind).job
    then with_job f p.job (answered_to p.kind v.answer v.after.now.time (record j { named = more j.named }))
    else f

-- those after a job was woken: its wait is over
abbrev pub woken_in : Visit → Figures → ℕ → Figures
woken_in v f job =
    let long = v.after.now.time - (row_in v.before.now job).since in
    with_job f job (waited (state_of (report v.before.now job)) long (figures_of f job))

-- those after an event, if one was read
abbrev pub with_event : Figures → Visit → Option Parts → Figures
with_event f v None = f
with_event f v (Some p) = fold (woken_in v) (with_named (with_late f v p.tick.0) v p) (woken_by v.answer v.list.now)

-- those after a record
abbrev pub counted : Figures → Visit → Figures
counted f v =
    let answer = answered f v.number v.answer v.after.now.time in
    with_event (seen answer v.after.now) v (parts_read (outcome_of v.reading))
