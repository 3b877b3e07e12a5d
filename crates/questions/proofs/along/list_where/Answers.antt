-- The loop keeps: whatever the test decides, the jobs written and those that pass it and are still to come make up the list, and
-- the rest is as it was.
use Rattle.std.specs.Prelude.{◌<◌, ◌≡◌}
use Rattle.questions.specs.Prelude.{ap, arith, drop_of_length-le, get_or, keep, length, line, sym, take, ◌∙◌}
use Rattle.sweep.proofs.Jobs.{entries, entries_fit, entry_below, entry_here}
use Rattle.sweep.proofs.Writing.{writing_done, writing_passed, writing_written}
use Rattle.questions.proofs.along.list_where.Goals as goal
use Rattle.questions.proofs.along.list_where.Goals.{else-test, then-test}

pub bounds-rows-job : goal.bounds-rows-job
bounds-rows-job g c =
    entry_below c.args.rows.now c.requires.lines c.told-rows c.loop-place.place c.loop-place-test.true

pub bounds-list-n : goal.bounds-list-n
bounds-list-n g c =
    omega (arith, entries_fit c.args.rows.now c.requires.lines c.told-rows, c.loop-place.invariant.1, c.loop-place-test.true)

pub overflow_add-n : goal.overflow_add-n
overflow_add-n g c =
    omega (arith, entries_fit c.args.rows.now c.requires.lines c.told-rows, c.loop-place.invariant.1, c.loop-place-test.true)

pub loop-place-preserved : goal.loop-place-preserved
loop-place-preserved g c =
    let l = c.loop-place in
    let rows = c.args.rows.now in
    let job = get_or (take c.args.line.now.len c.args.line.now.jobs) l.place 0 in
    let placed : l.place < length (line rows) = omega (arith, entries rows c.requires.lines, c.loop-place-test.true) in
    let here = entry_here rows c.requires.lines l.place in
    let room : l.n < length l.list =
    omega (arith, entries_fit rows c.requires.lines c.told-rows, l.invariant.1, c.loop-place-test.true) in (
      l.invariant.0,
      elim c.if-test.branch [
        | then-test w ↦ rw w.n-is (omega arith)
        | else-test w ↦ rw w.n-is (omega arith)
      ],
      λ f decides.
          let test : f job ≡ c.test.result =
          ap f (sym here) ∙ decides l.place placed c.test.result (rw here c.test.ensures) in
          elim c.if-test.branch [
            | then-test w ↦ rw (w.n-is, w.list-is) (writing_written (l.invariant.2 f decides) job placed here (test ∙ w.if-test.true) room)
            | else-test w ↦ rw (w.n-is, w.list-is) (writing_passed (l.invariant.2 f decides) job placed here (test ∙ w.if-test.false))
          ],
    )

pub overflow_cast-result : goal.overflow_cast-result
overflow_cast-result g c =
    omega (arith, entries_fit c.args.rows.now c.requires.lines c.told-rows, c.loop-place.invariant.1)

pub returns : goal.returns
unfolding keep
returns g c = λ f decides.
    let l = c.loop-place in
    let rows = c.args.rows.now in
    writing_done (l.invariant.2 f decides)
    (ap (keep f) (drop_of_length-le (line rows) {i = l.place} (omega (arith, entries rows c.requires.lines, c.loop-place-test.false))))
    (omega (arith, entries_fit rows c.requires.lines c.told-rows, l.invariant.1))
