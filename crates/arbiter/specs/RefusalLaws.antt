-- The cases of each call stand in the one order of the documents, so the first that applies is the first of that order.
use Rattle.std.specs.Prelude.{◌++◌, ◌≡◌}
use Rattle.arbiter.specs.Prelude.{Event, Table, [], all, any, ascends, cases_by, cond, described, documented, every_kind, follows, job_of, kind_of, refl, refusals_of, set_of, tick_of, true, ℕ}
use Rattle.arbiter.specs.Refusals.{cases, start_cases, report_cases, overdue_cases, applies, calling, list_cases}

-- tried on each kind, by computing
pub cases_in_order : (n : ℕ) (t : Table) (e : Event) → follows documented (cases n t e) ≡ true
unfolding all any ascends
cases_in_order n t e =
    let c = calling (job_of e) (tick_of e) (set_of e) in
    every_kind
    (λ k. follows documented (cond (described k).wakes (list_cases n) [] ++ cases_by (applies t c) (refusals_of (described k))))
    refl
    (kind_of e)

pub start_in_order : (T R limit : ℕ) → follows documented (start_cases T R limit) ≡ true
unfolding all any ascends
start_in_order T R limit = refl

pub report_in_order : (t : Table) (j : ℕ) → follows documented (report_cases t j) ≡ true
unfolding all any ascends
report_in_order t j = refl

pub overdue_in_order : (n : ℕ) (t : Table) (tick : ℕ) → follows documented (overdue_cases n t tick) ≡ true
unfolding all any ascends
overdue_in_order n t tick = refl
