-- The three ways in which a job is passed.
use Rattle.std.specs.Prelude.{◌≡◌}
use Rattle.sweep.specs.Prelude.{Bool, Row, Standing, behind, cond, false, goes_on, live, sym, true, wakes_by, ℕ}
use Rattle.sweep.specs.Passing.{passed_by}
use Rattle.sweep.specs.declared.settling.Passed.{Passed}

module _ (up : Bool) (T : ℕ) (s : Standing) (r : Row) where
  -- what it comes to, by whether the row is live and whether it wakes
  abbrev by : Bool → Bool → Passed
  by lives wakes =
      cond lives (record { row = cond wakes (goes_on r) r; s = behind s r; woke = wakes }) (record { row = r; s = s; woke = false })

  pub passed_gone : live r ≡ false → record { row = r; s = s; woke = false } ≡ passed_by up T s r
  passed_gone e = λ i. by (sym e i) (wakes_by up T s r)

  pub passed_wakes :
      live r ≡ true → wakes_by up T s r ≡ true → record { row = goes_on r; s = behind s r; woke = true } ≡ passed_by up T s r
  passed_wakes lives e = λ i. by (sym lives i) (sym e i)

  pub passed_stays :
      live r ≡ true → wakes_by up T s r ≡ false → record { row = r; s = behind s r; woke = false } ≡ passed_by up T s r
  passed_stays lives e = λ i. by (sym lives i) (sym e i)
