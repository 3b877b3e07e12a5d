-- The chain counts as the library does, which is to count as the definition says.
use Rattle.std.specs.Prelude.{◌+◌, count_by}
use Rattle.std.proofs.Common.{◌≡◌, Bool, List, cond, false, refl, rules, true, zero-add, ℕ}
use Rattle.std.proofs.lemmas.List.Recursion.{is_count_by}
use Rattle.laws.specs.Bools.{bit}
unfoldable use Rattle.laws.specs.Lists.{count}
use Rattle.rows.specs.Order.{live}
use Rattle.rows.specs.declared.row.Row.{Row}
use Rattle.rows.proofs.scan.live_count.Goals as goal

-- both ways to count agree
counts : (rows : List Row) → count live rows ≡ count_by live rows
unfolding count
counts = is_count_by (count live) live refl (λ r rows. step (live r) (count live rows))
  where
    step : (b : Bool) (n : ℕ) → bit b + n ≡ cond b (1 + n) n
    step true n = refl
    step false n = zero-add n

pub returns : goal.returns
returns c = rw (counts c.args.rows.now) (search rules)
