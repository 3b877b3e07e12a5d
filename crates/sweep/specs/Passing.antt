-- Passing one job of the line, as code does it.
use Rattle.std.specs.Prelude.{ℕ, Bool, cond, false, List, set}
use Rattle.request.specs.Going.{goes_on, wakes_by}
use Rattle.rows.specs.Order.{live}
use Rattle.rows.specs.Stand.{behind}
use Rattle.rows.specs.declared.row.Row.{Row}
use Rattle.rows.specs.declared.stand.Standing.{Standing}
use Rattle.sweep.specs.declared.settling.Passed.{Passed}

-- a job that has gone changes nothing; one that has a request wakes or not, and the next stands behind it
abbrev pub passed_by : Bool → ℕ → Standing → Row → Passed
passed_by up T s r =
    cond (live r)
    (record { row = cond (wakes_by up T s r) (goes_on r) r; s = behind s r; woke = wakes_by up T s r })
    (record { row = r; s = s; woke = false })

-- a job that woke is written at place n of a list
abbrev pub noted : List ℕ → ℕ → ℕ → Bool → List ℕ
noted out n job woke = cond woke (set out n job) out
