-- The tests are the cases: where the version is unknown, or the size is that of another count of rows, only the order in which
-- they are made differs.
use Rattle.std.specs.Prelude.{◌≡◌, Result}
use Rattle.std.proofs.lemmas.Grind.{common_steps}
use Rattle.loading.specs.Prelude.{Refusal, ap, arith, false, le-ltb, lt-ltb, not, outcome_is, past, refl, sym, this, true, ◌∙◌}
use Rattle.service.specs.File.{head_in, known, table_in, table_read, wrong_size}
use Rattle.loading.specs.LoadingLaws.{is_known, right_size, rows_refused, stray_head, table_loaded, table_refused, too_short, unknown, wrong_size_lem}
use Rattle.loading.specs.Taking.{with_left}
use Rattle.loading.proofs.read_into.Goals as goal
use Rattle.loading.proofs.read_into.Goals.{Else-file-count}

pub returns-then-file-lt-HEAD : goal.returns-then-file-lt-HEAD
unfolding table_read
returns-then-file-lt-HEAD c =
    let bs = c.args.file.now in
    outcome_is (table_in bs) (this (too_short bs (head_in bs) refl c.if-file-lt-HEAD.true))

pub returns-then-head-ne-VERSION : goal.returns-then-head-ne-VERSION
unfolding table_read
returns-then-head-ne-VERSION c =
    let bs = c.args.file.now in
    let no = unknown bs _ c.head_in-head.ensures.is c.if-file-lt-HEAD.false c.if-head-ne-VERSION.true in
    outcome_is (table_in bs) (past no.1 (this (ap not no.0)))

pub returns-then-file-count : goal.returns-then-file-count
unfolding table_read
returns-then-file-count c =
    let bs = c.args.file.now in
    outcome_is (table_in bs) (this (wrong_size_lem bs _ c.head_in-head.ensures.is c.if-file-lt-HEAD.false c.if-head-ne-VERSION.false c.if-file-count.true))

-- past the third test: size and version are right
sized : (c : Else-file-count) → wrong_size c.args.file.now ≡ false
sized c = right_size c.args.file.now _ c.head_in-head.ensures.is c.if-file-lt-HEAD.false (omega arith) c.if-file-count.false

one : (c : Else-file-count) → known c.args.file.now ≡ true
one c = is_known c.args.file.now _ c.head_in-head.ensures.is c.if-file-lt-HEAD.false (omega arith)

pub returns-then-head-gt0 : goal.returns-then-head-gt0
returns-then-head-gt0 c =
    let at = (goal.at.returns-then-head-gt0 c).Else-file-count in
    stray_head c.args.file.now _ c.head_in-head.ensures.is (sized at) (one at) (lt-ltb _ _ c.if-head-gt0.true)

pub returns-in_err-take_rows : goal.returns-in_err-take_rows
returns-in_err-take_rows c =
    let at = (goal.at.returns-in_err-take_rows c).Else-file-count in
    let rows = c.take_rows.new.rows in
    let refuses = rows_refused c.args.file.now _ c.head_in-head.ensures.is (sized at) (one at) (le-ltb 0 c.head_in-head.result.zero (omega arith)) (with_left c.take_rows.result rows) c.take_rows.ensures in
    let told = refuses c.in_err-take_rows.field-0.0 (ap (λ (r : Result Unit Refusal). with_left r rows) c.in_err-take_rows.was) in
    grind (arith, common_steps, told)

pub returns-then-not-is_sound : goal.returns-then-not-is_sound
returns-then-not-is_sound c =
    let at = (goal.at.returns-then-not-is_sound c).Else-file-count in
    let rows = c.take_rows.new.rows in
    table_refused c.args.file.now _ c.head_in-head.ensures.is (sized at) (one at) (le-ltb 0 c.head_in-head.result.zero (omega arith)) (with_left c.take_rows.result rows) c.take_rows.ensures
    rows (ap (λ (r : Result Unit Refusal). with_left r rows) c.in_ok-take_rows.was) c.take_head.new.table c.take_head.ensures (sym c.is_sound.ensures ∙ c.if-not-is_sound.true)

pub returns : goal.returns
returns c =
    let at = (goal.at.returns c).Else-file-count in
    let rows = c.take_rows.new.rows in
    table_loaded c.args.file.now _ c.head_in-head.ensures.is (sized at) (one at) (le-ltb 0 c.head_in-head.result.zero (omega arith)) (with_left c.take_rows.result rows) c.take_rows.ensures
    rows (ap (λ (r : Result Unit Refusal). with_left r rows) c.in_ok-take_rows.was) c.take_head.new.table c.take_head.ensures (sym c.is_sound.ensures ∙ c.if-not-is_sound.false)
