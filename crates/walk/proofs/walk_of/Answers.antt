-- Each step of the loop is a law of the pace, and what is passed are the entries of the line.
use Rattle.std.specs.Prelude.{◌<◌, ◌≡◌}
use Rattle.walk.specs.Prelude.{List, ap, arith, get_or, length, line, line_below, sym, take, ◌∙◌, ℕ}
use Rattle.walk.specs.PaceLaws.{pacing_end, pacing_start, pacing_step, pacing_stops}
use Rattle.walk.proofs.walk_of.Goals as goal
use Rattle.walk.proofs.walk_of.Goals.{In-loop-k, Start}

inside : (c : In-loop-k) → c.loop-k.k-index < length (line c.args.rows.now)
inside c = omega (arith, c.requires.number, c.loop-k-test.true)

here :
    (c : In-loop-k) →
    get_or (line c.args.rows.now) c.loop-k.k-index 0 ≡ get_or (take c.args.line.now.len c.args.line.now.jobs) c.loop-k.k-index 0
here c = ap (λ (js : List ℕ). get_or js c.loop-k.k-index 0) (sym c.requires.list)

pub loop-k-init : goal.loop-k-init
loop-k-init c = pacing_start c.args.b c.args.rows.now c.args.job c.begun-w.result c.begun-w.ensures

pub bounds-rows-k : goal.bounds-rows-k
bounds-rows-k c =
    let i = (goal.at.bounds-rows-k c).In-loop-k in
    rw (← here i) (omega (arith, c.told-rows, line_below c.args.rows.now c.loop-k.k-index (inside i)))

pub returns-in_err-w : goal.returns-in_err-w
returns-in_err-w c =
    let i = (goal.at.returns-in_err-w c).In-loop-k in
    rw c.from_residual.ensures
    (pacing_stops c.args.rows.now c.loop-k.k-index (inside i) _ (here i) c.loop-k.w c.loop-k.invariant
    (sym c.further.ensures ∙ c.in_err-w.was))

pub loop-k-preserved : goal.loop-k-preserved
loop-k-preserved c =
    let i = (goal.at.loop-k-preserved c).In-loop-k in
    pacing_step c.args.rows.now c.loop-k.k-index (inside i) _ (here i) c.loop-k.w c.loop-k.invariant c.in_ok-w.w
    (sym c.further.ensures ∙ c.in_ok-w.was)

pub returns : goal.returns
returns c = rw c.finished.ensures (pacing_end c.args.rows.now c.loop-k.k-index c.loop-k.w c.loop-k.invariant
    (omega (arith, ap length c.requires.list, c.loop-k-test.false)))
