-- A request is opened with all live requests before it.
use Rattle.std.specs.Prelude.{◌≡◌}
use Rattle.promises.specs.Prelude.{Open, Table, Tick, ahead, ahead_set, ap, arith, bit, count, jobs, live, next, opened_row, row_in, time_at, ℕ}
use Rattle.promises.proofs.Demand.Token.{all_before, n}
use Rattle.promises.specs.History.Words.{Along}
use Rattle.kept.specs.Changes.{lower_ahead}
use Rattle.kept.specs.Words.{Accepts}
use Rattle.kept.specs.Accepted.{next_accepted, open_below, open_idle}

module _ {T : ℕ} (t : Table) (along : Along T 0 t) (j : ℕ) (tick : Tick) (s : ℕ) (ok : Accepts jobs t (Open j tick s)) where
  -- the next turn, which it is given
  abbrev turn : ℕ
  turn = n t along j tick s ok

  -- a new request has all live ones before it
  pub ahead_opened : ahead (next jobs t (Open j tick s)).rows turn ≡ count live t.rows
  ahead_opened =
      let r = opened_row t (time_at t tick.0) s in
      rw (next_accepted jobs t (Open j tick s) ok)
      (omega (
        arith,
        all_before t along j tick s ok,
        ahead_set t.rows j r (omega (arith, along.wide, open_below jobs t j tick s ok)) turn,
        ap bit ((lower_ahead turn).opening.idle_fails (row_in t j) (open_idle jobs t j tick s ok)),
        ap bit ((lower_ahead turn).late_fails r (omega arith)),
      ))
