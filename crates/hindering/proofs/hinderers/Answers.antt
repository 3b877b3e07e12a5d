-- The tests are the cases, in their order; a refusal leaves the list, and an accepted question lists who is in the way.
use Rattle.std.specs.Prelude.{◌≡◌}
use Rattle.hindering.specs.Prelude.{First, List, Listed, NoSuchJob, NotLive, Refusal, Row, Seen, ShortList, Surveyed, Table, UnsoundTable, ◌∙◌, Err, Ok, ap, bounds_of, fine, le-leb, le-ltb, leaves_is, length, live, lt-leb, lt-ltb, none, not, number_of, outcome, outcome_is, over, past, refusal_tells, refused, row_in, seen_by_lem, sound, sound_by_lem, subst, surveyed_by, sym, this, true, ℕ}
use Rattle.hindering.specs.Hindering.{claimants_before, hinder_answer, hinder_cases, hinder_list, in_way_of}
use Rattle.hindering.specs.Promises.{Hinders}
use Rattle.hindering.proofs.hinderers.Goals as goal
use Rattle.hindering.proofs.hinderers.Goals.{After-survey-s}

-- ---- What is told

-- a refusal is told, and leaves the list
refuses :
    (t : Table) (j : ℕ) (before : List ℕ) (r : Refusal) →
    refused (number_of r) ≡ outcome (hinder_cases (length before) t j) (length (in_way_of t j)) →
    Hinders t j before (Err r) before
unfolding hinder_answer hinder_list
refuses t j before r v =
    record {
      says = v;
      lists = sym ((refusal_tells {B = List ℕ} (hinder_cases (length before) t j) (length (in_way_of t j)) (number_of r) (sym v)).2 before (over (in_way_of t j) before));
    }

-- an accepted question is told how many are listed
accepts :
    (t : Table) (j : ℕ) (before after : List ℕ) (n : ℕ) → First (hinder_cases (length before) t j) 0 →
    Listed (in_way_of t j) before n after → Hinders t j before (Ok n) after
unfolding hinder_answer hinder_list
accepts t j before after n clear listed =
    record {
      says = ap fine listed.told ∙ outcome_is (length (in_way_of t j)) clear;
      lists = listed.left ∙ leaves_is before (over (in_way_of t j) before) clear;
    }

-- who was listed for a row was listed for every row equal to it
listed_by :
    (rows : List Row) {r r' : Row} → r ≡ r' → {n : ℕ} {before after : List ℕ} →
    Listed (claimants_before rows r.turn.0 r.asked) before n after →
    Listed (claimants_before rows r'.turn.0 r'.asked) before n after
listed_by rows e {n} {before} {after} =
    subst (λ (r : Row). Listed (claimants_before rows r.turn.0 r.asked) before n after) e

-- ---- What holds on the way

-- the survey is of this table
surveyed :
    (c : After-survey-s) →
    let a = c.args in
    Surveyed (bounds_of a.table.now) a.table.now.rows a.job c.survey-s.result
surveyed c =
    let a = c.args in
    surveyed_by c.bounds.result a.table.now c.bounds.ensures c.survey-s.ensures

-- it tells whether the table is sound
tells :
    (c : After-survey-s) → sound c.args.table.now ≡ c.survey-s.result.seen.sound
tells c = sym ((surveyed c).told ∙ sound_by_lem c.args.table.now)

-- and, where it is, the row of the job
same_row :
    (c : After-survey-s) → c.survey-s.result.seen.sound ≡ true →
    let a = c.args in
    c.survey-s.result.seen.row ≡ row_in a.table.now a.job
same_row c ok =
    let a = c.args in
    ap (λ (s : Seen). s.row) (((surveyed c).known (sym (surveyed c).told ∙ ok)).sees ∙ seen_by_lem a.table.now a.job)

-- ---- The rules

pub returns-then-list-lt-JOBS : goal.returns-then-list-lt-JOBS
returns-then-list-lt-JOBS c =
    let a = c.args in
    refuses a.table.now a.job a.list.now ShortList (outcome_is _ (this (lt-ltb _ _ c.if-list-lt-JOBS.true)))

pub returns-then-not-s : goal.returns-then-not-s
returns-then-not-s c =
    let a = c.args in
    refuses a.table.now a.job a.list.now UnsoundTable
    (outcome_is _
    (past (le-ltb _ _ c.if-list-lt-JOBS.false)
    (this (ap not (tells (goal.at.returns-then-not-s c).After-survey-s ∙ c.if-not-s.true)))))

pub returns-then-job : goal.returns-then-job
returns-then-job c =
    let a = c.args in
    refuses a.table.now a.job a.list.now NoSuchJob
    (outcome_is _
    (past (le-ltb _ _ c.if-list-lt-JOBS.false)
    (past (ap not (tells (goal.at.returns-then-job c).After-survey-s ∙ c.if-not-s.false))
    (this (le-leb _ _ c.if-job.true)))))

pub returns-then-not-live : goal.returns-then-not-live
returns-then-not-live c =
    let a = c.args in
    let no = c.if-not-s.false in
    refuses a.table.now a.job a.list.now NotLive
    (outcome_is _
    (past (le-ltb _ _ c.if-list-lt-JOBS.false)
    (past (ap not (tells (goal.at.returns-then-not-live c).After-survey-s ∙ no))
    (past (lt-leb _ _ c.if-job.false)
    (this
    (ap not (sym (ap live (same_row (goal.at.returns-then-not-live c).After-survey-s no)) ∙ sym c.live.ensures ∙ c.if-not-live.true)))))))

pub list_claimants-requires : goal.list_claimants-requires
list_claimants-requires c =
    let known = surveyed (goal.at.list_claimants-requires c).After-survey-s in
    record { lines = (known.known (sym known.told ∙ c.if-not-s.false)).lines; jobs_in_bounds = c.if-list-lt-JOBS.false }

pub returns : goal.returns
returns c =
    let a = c.args in
    let no = c.if-not-s.false in
    let same = same_row (goal.at.returns c).After-survey-s no in
    accepts a.table.now a.job a.list.now _ _
    (past (le-ltb _ _ c.if-list-lt-JOBS.false)
    (past (ap not (tells (goal.at.returns c).After-survey-s ∙ no))
    (past (lt-leb _ _ c.if-job.false)
    (past (ap not (sym (ap live same) ∙ sym c.live.ensures ∙ c.if-not-live.false))
    none))))
    (listed_by a.table.now.rows same c.list_claimants.ensures)
