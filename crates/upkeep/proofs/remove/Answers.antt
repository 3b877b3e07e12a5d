-- Those behind the place are copied one place forward.
use Rattle.upkeep.specs.Prelude.{◌∙◌, ◌-◌, ap, arith, refl, rules, take}
use Rattle.upkeep.specs.Removing.{removed_copied}
use Rattle.upkeep.proofs.remove.Goals as goal

pub returns-then-goes : goal.returns-then-goes
returns-then-goes c =
    rw c.if-goes.true
    record {
      number = refl;
      list = ap (take (c.args.line.now.len - 1)) c.copy_within.ensures.after ∙ removed_copied c.args.line.now.jobs c.args.place c.args.line.now.len (omega arith) (omega arith);
      long = c.copy_within.ensures.len ∙ search rules;
    }
