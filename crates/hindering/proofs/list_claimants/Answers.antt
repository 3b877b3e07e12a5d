-- What the closure says of a row is that its job is a claimant.
use Rattle.std.specs.Prelude.{◌≡◌}
use Rattle.std.proofs.Common.{rules}
use Rattle.hindering.specs.Prelude.{claims_ahead, get_or, line}
use Rattle.hindering.specs.Hindering.{claimants_before}
use Rattle.hindering.proofs.list_claimants.Goals as goal

pub returns : goal.returns
unfolding claimants_before
returns c =
    let rows = c.args.rows.now in
    c.list_where.ensures (claims_ahead rows c.args.turn.0 c.args.s)
    (λ p within said now.
    let told : claims_ahead rows c.args.turn.0 c.args.s (get_or (line rows) p 0) ≡ said = search rules in
    told)
