-- The loop keeps that what was taken and what is left come to what all rows of the file do.
use Rattle.std.specs.Prelude.{◌*◌, ◌+◌, ◌-◌, ◌∷◌, ◌≡◌}
use Rattle.loading.specs.Prelude.{FileRow, List, [], ap, arith, drop, le-ltb, lt-ltb, subst, sym, ◌∙◌, ℕ}
use Rattle.service.specs.File.{head_size, row_size, rows_in}
use Rattle.service.specs.PlacingLaws.{rows_jobs, rows_left}
use Rattle.loading.specs.LoadingLaws.{taking_fit, taking_next, taking_stray, taking_unfit}
use Rattle.loading.specs.Taking.{Taking}
use Rattle.loading.proofs.take_rows.Goals as goal
use Rattle.loading.proofs.take_rows.Invariants.{left_in}
use Rattle.loading.proofs.take_rows.Goals.{After-loop-i, After-row_at-said}

-- the row that was read is the next
next :
    (c : After-row_at-said) →
    Taking (rows_in c.args.count (drop head_size c.args.file.now)) (c.row_at-said.result ∷ left_in c.args.file.now c.args.count (c.loop-i.i + 1)) c.loop-i.rows
    c.loop-i.fits c.loop-i.passed.0
next c =
    let file = c.args.file.now in
    let count = c.args.count in
    let i = c.loop-i.i in
    let opens : left_in file count i ≡ c.row_at-said.result ∷ left_in file count (i + 1) =
    rows_left count i (drop head_size file) c.loop-i-test.true
    ∙ ap (λ (f : FileRow). f ∷ left_in file count (i + 1)) (sym c.row_at-said.ensures.is) in
    subst (λ (left : List FileRow). Taking (rows_in count (drop head_size file)) left c.loop-i.rows c.loop-i.fits c.loop-i.passed.0) opens c.loop-i.invariant

-- and at the end there is none
all : (c : After-loop-i) → Taking (rows_in c.args.count (drop head_size c.args.file.now)) [] c.loop-i.rows c.loop-i.fits c.loop-i.passed.0
unfolding rows_in
all c =
    let file = c.args.file.now in
    let count = c.args.count in
    let l = c.loop-i in
    let over : count - l.i ≡ 0 = omega arith in
    let none : left_in file count l.i ≡ [] = ap (λ (n : ℕ). rows_in n (drop (row_size * l.i) (drop head_size file))) over in
    subst (λ (left : List FileRow). Taking (rows_in count (drop head_size file)) left l.rows l.fits l.passed.0) none l.invariant

pub returns-then-said-gt0 : goal.returns-then-said-gt0
returns-then-said-gt0 c = taking_stray c.row_at-said.result (next (goal.at.returns-then-said-gt0 c).After-row_at-said) (lt-ltb _ _ c.if-said-gt0.true)

pub loop-i-preserved : goal.loop-i-preserved
loop-i-preserved c =
    taking_next c.row_at-said.result c.from-row.result (next (goal.at.loop-i-preserved c).After-row_at-said) (le-ltb 0 c.row_at-said.result.zero (omega arith))
    c.from-row.ensures c.earlier.ensures c.live.ensures

pub returns-then-fits : goal.returns-then-fits
returns-then-fits c =
    taking_fit (rows_jobs c.args.count (drop head_size c.args.file.now)) (all (goal.at.returns-then-fits c).After-loop-i) c.if-fits.true

pub returns-else-fits : goal.returns-else-fits
returns-else-fits c =
    taking_unfit (rows_jobs c.args.count (drop head_size c.args.file.now)) (all (goal.at.returns-else-fits c).After-loop-i) c.if-fits.false
