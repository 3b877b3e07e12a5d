-- Before the first turn, on each turn, and after the last.
use Rattle.sweep.specs.Prelude.{arith, inl, inr}
use Rattle.sweep.proofs.Jobs.{entries, entry_below, entry_here}
use Rattle.sweep.proofs.Turns.{Asked, begins, ends, few_tokens, goes_on}
use Rattle.sweep.proofs.settling.settle.Goals as goal
use Rattle.sweep.proofs.settling.settle.Goals.{In-loop-job, Start, else-loop-job-test, then-loop-job-test+then-b-s}

asked : (c : Start) → Asked c.args.rows.now c.args.line.now c.args.b c.args.k c.args.row c.args.woken.now
asked c =
    record {
      lines = c.requires.lines.0;
      sound = c.requires.lines.1;
      acts = c.requires.acts.0;
      onward = c.requires.acts.1;
      room = c.requires.acts.2;
    }

pub loop-job-init : goal.loop-job-init
loop-job-init c = rw c.front-s.ensures (begins (asked (goal.at.loop-job-init c).Start))

pub bounds-rows-job : goal.bounds-rows-job
bounds-rows-job c = entry_below c.args.rows.now c.requires.lines.0 c.told-rows c.loop-job.job-index c.loop-job-test.true

pub pass_by-passed-requires : goal.pass_by-passed-requires
pass_by-passed-requires c = (omega arith, few_tokens (asked (goal.at.pass_by-passed-requires c).Start))

pub bounds-rows-job-in-loop-job : goal.bounds-rows-job-in-loop-job
bounds-rows-job-in-loop-job c =
    entry_below c.args.rows.now c.requires.lines.0 c.told-rows c.loop-job.job-index c.loop-job-test.true

pub loop-job-preserved : goal.loop-job-preserved
loop-job-preserved c =
    let lines = c.requires.lines.0 in
    let p = c.loop-job.job-index in
    goes_on (asked (goal.at.loop-job-preserved c).Start) c.loop-job.invariant c.told-rows
    (omega (arith, entries c.args.rows.now lines, c.loop-job-test.true)) _ (entry_here c.args.rows.now lines p) (omega arith)
    c.pass_by-passed.result (rw (← c.live-up.ensures) c.pass_by-passed.ensures) c.note-n.result c.note-n.new.woken c.note-n.ensures

pub returns : goal.returns
returns c =
    ends (asked (goal.at.returns c).Start) c.loop-job.invariant c.told-rows
    (elim c.loop-job-test.branch [
      | else-loop-job-test w ↦ inl (omega (arith, entries c.args.rows.now c.requires.lines.0, w.loop-job-test.false))
      | then-loop-job-test+then-b-s w ↦ inr w.if-b-s.true
    ])
