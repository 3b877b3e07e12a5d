-- The two tests are the two cases, in their order; the first line and the rows after it are the page.
use Rattle.std.specs.Prelude.{◌≡◌, Ok, Result}
use Rattle.std.proofs.lemmas.Grind.{common_steps}
use Rattle.page.specs.Prelude.{Bounds, First, Lines, List, Refusal, Surveyed, Table, Wrote, ◌∙◌, ap, arith, bounds_of, fine, keep_unless, laid_front, leaves_is, le-ltb, length, lt-ltb, none, not, outcome_is, outcome_of, over, past, refl, sound, sound_by_lem, subst, sym, then, this, unless, wrote_length, zero-add, ℕ}
use Rattle.page.specs.Meaning.{page_answer, page_cases, room_after}
use Rattle.page.specs.Page.{page}
use Rattle.page.specs.Promises.{PutPage}
use Rattle.page.proofs.put_page.Goals as goal
use Rattle.page.proofs.put_page.Goals.{After-survey-surveyed, Else-not-surveyed}

-- ---- What was answered and left

-- by the first case that applies, or by none
put_is :
    (t : Table) (before : List ℕ) {n : ℕ} {r : Result ℕ Refusal} {after : List ℕ} → First (page_cases (length before) t) n →
    outcome_of r ≡ unless n (length (page t)) → after ≡ keep_unless n before (over (page t) before) → PutPage t before r after
unfolding page_answer room_after
put_is t before f a l =
    record { answers = a ∙ outcome_is (length (page t)) f; leaves = l ∙ leaves_is before (over (page t) before) f }

-- by none, with the page written
put_all :
    (t : Table) (before : List ℕ) {end : ℕ} {after : List ℕ} → First (page_cases (length before) t) 0 →
    Wrote before 0 (page t) end after → PutPage t before (Ok end) after
put_all t before f w =
    put_is t before f (ap fine (w.ends ∙ zero-add (length (page t)))) (w.left ∙ laid_front before (page t))

-- ---- What the survey tells

-- it is of this table
surveyed :
    (c : After-survey-surveyed) →
    let t = c.args.table.now in
    Surveyed (bounds_of t) t.rows 0 c.survey-surveyed.result
surveyed c =
    let t = c.args.table.now in
    subst (λ (b : Bounds). Surveyed b t.rows 0 c.survey-surveyed.result) c.bounds.ensures c.survey-surveyed.ensures

-- it tells whether the table is sound
tells : (c : After-survey-surveyed) → sound c.args.table.now ≡ c.survey-surveyed.result.seen.sound
tells c = sym ((surveyed c).told ∙ sound_by_lem c.args.table.now)

-- and, where it is, the line
in_line :
    (c : Else-not-surveyed) →
    Lines c.args.table.now.rows c.survey-surveyed.result.line
in_line c =
    let t = c.args.table.now in
    let s = subst (λ (b : Bounds). Surveyed b t.rows 0 c.survey-surveyed.result) c.bounds.ensures c.survey-surveyed.ensures in
    (s.known (sym s.told ∙ c.if-not-surveyed.false)).lines

-- ---- The goals

pub returns-then-not-surveyed : goal.returns-then-not-surveyed
returns-then-not-surveyed c =
    let a = c.args in
    put_is a.table.now a.out.now (this (ap not (tells (goal.at.returns-then-not-surveyed c).After-survey-surveyed ∙ c.if-not-surveyed.true))) refl refl

pub returns-then-out-lt-PAGE : goal.returns-then-out-lt-PAGE
returns-then-out-lt-PAGE c =
    let a = c.args in
    put_is a.table.now a.out.now
    (past (ap not (tells (goal.at.returns-then-out-lt-PAGE c).After-survey-surveyed ∙ c.if-not-surveyed.false)) (this (lt-ltb _ _ c.if-out-lt-PAGE.true))) refl refl

pub put_head-requires : goal.put_head-requires
put_head-requires c = record { live_value = (in_line (goal.at.put_head-requires c).Else-not-surveyed).number; room = omega (arith, c.if-out-lt-PAGE.false) }

pub put_rows-requires : goal.put_rows-requires
put_rows-requires c =
    let w = c.put_head.ensures in
    record { lines = in_line (goal.at.put_rows-requires c).Else-not-surveyed; room = omega (arith, wrote_length w.puts.wrote) }

pub returns : goal.returns
unfolding page
returns c =
    let t = c.args.table.now in
    let puts = then c.put_head.ensures.puts c.put_rows.ensures in
    let clear = past (ap not (tells (goal.at.returns c).After-survey-surveyed ∙ c.if-not-surveyed.false)) (past (le-ltb _ _ c.if-out-lt-PAGE.false) none) in
    let all = put_all t c.args.out.now clear puts.wrote in
    grind (arith, common_steps, puts.same, all)
