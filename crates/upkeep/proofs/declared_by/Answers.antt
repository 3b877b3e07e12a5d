-- Each entry is the declared set of its row.
use Rattle.upkeep.specs.Prelude.{arith, idle, live_within, rules}
use Rattle.upkeep.proofs.declared_by.Goals as goal

pub returns : goal.returns
returns c = λ j alive.
    let within = live_within c.args.rows.now j alive in
    let here = c.map.ensures.items.at j idle 0 (omega (arith, c.told-rows)) in
    let it = here.2.met in
    search rules
