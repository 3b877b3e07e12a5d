-- The loop keeps: of the jobs passed n are of lower turn and declare some member.
use Rattle.std.specs.Prelude.{◌&&◌, ◌<◌, ◌≡◌}
use Rattle.questions.specs.Prelude.{◌∙◌, arith, get_or, length, line, sym, take}
use Rattle.questions.specs.InCode.{claims_ahead}
use Rattle.questions.specs.QuestionLaws.{in_way_line}
use Rattle.questions.proofs.Counting.{counting_end, counting_fits, counting_none, counting_one, counting_start}
use Rattle.sweep.proofs.Jobs.{entries, entries_fit, entry_below, entry_here}
use Rattle.questions.proofs.along.in_way.Goals as goal
use Rattle.questions.proofs.along.in_way.Goals.{In-loop-job, else-earlier-meets, then-earlier-meets}

pub loop-job-init : goal.loop-job-init
loop-job-init c = counting_start _ _

pub bounds-rows-job : goal.bounds-rows-job
bounds-rows-job c = entry_below c.args.rows.now c.requires c.told-rows c.loop-job.job-index c.loop-job-test.true

pub overflow_add-n : goal.overflow_add-n
overflow_add-n c =
    omega (arith, counting_fits c.loop-job.invariant, entries c.args.rows.now c.requires, entries_fit c.args.rows.now c.requires c.told-rows)

pub loop-job-preserved : goal.loop-job-preserved
loop-job-preserved c =
    let l = c.loop-job in
    let rows = c.args.rows.now in
    let job = get_or (take c.args.line.now.len c.args.line.now.jobs) l.job-index 0 in
    let test : claims_ahead rows c.args.turn.0 c.args.s job ≡ (c.earlier.result && c.meets.result) =
    sym (λ i. c.earlier.ensures i && c.meets.ensures i) in
    let placed : l.job-index < length (line rows) = omega (arith, entries rows c.requires, c.loop-job-test.true) in
    let here = entry_here rows c.requires l.job-index in
    elim c.if-earlier-meets.branch [
      | then-earlier-meets w ↦ rw w.n-is (counting_one l.invariant job placed here (test ∙ w.if-earlier-meets.true))
      | else-earlier-meets w ↦ rw w.n-is (counting_none l.invariant job placed here (test ∙ w.if-earlier-meets.false))
    ]

pub returns : goal.returns
returns c =
    counting_end c.loop-job.invariant (omega (arith, entries c.args.rows.now c.requires, c.loop-job-test.false))
    ∙ in_way_line c.args.rows.now c.args.turn.0 c.args.s
