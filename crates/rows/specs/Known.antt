-- The decisions about a row from what is known of its turn.
use Rattle.std.specs.Prelude.{ℕ, Bool, not, ◌&&◌, ◌||◌, ltb}
use Rattle.rows.specs.Order.{live}
use Rattle.rows.specs.declared.row.Row.{Row}
use Rattle.rows.specs.declared.stand.Standing.{Standing}

-- the turn holds one of T tokens
abbrev pub token_by : ℕ → Standing → Bool
token_by T s = ltb s.ahead T

-- the row is live, and has no token or a non-empty asked set
abbrev pub waiting_by : ℕ → Standing → Row → Bool
waiting_by T s r = live r && (not (token_by T s) || ltb 0 r.asked)
