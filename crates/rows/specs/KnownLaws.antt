-- The decisions from what is known of a turn are those from the rows themselves.
use Rattle.std.specs.Prelude.{◌≡◌}
use Rattle.rows.specs.Prelude.{List, Row, Standing, ℕ}
use Rattle.rows.specs.Order.{token, waiting}
use Rattle.rows.specs.Stand.{Stands}
use Rattle.rows.specs.Known.{token_by, waiting_by}

module _ (T : ℕ) (rows : List Row) (s : Standing) where
  pub token_by_lem : (n : ℕ) → Stands rows n s → token_by T s ≡ token T rows n
  token_by_lem n stands = rw stands.before

  pub waiting_by_lem : (r : Row) → Stands rows r.turn.0 s → waiting_by T s r ≡ waiting T rows r
  waiting_by_lem r stands = rw (token_by_lem r.turn.0 stands)
