-- The loop keeps: what is found from place p on, with the claims before it, is what is found from the front on.
use Rattle.std.specs.Prelude.{◌≡◌}
use Rattle.line.specs.LineInCode.{jobs_of}
use Rattle.upkeep.specs.Prelude.{front}
use Rattle.upkeep.specs.Upkeep.{standing_in}
use Rattle.upkeep.proofs.Loops.{from_here}
use Rattle.upkeep.proofs.standing_of.Given as goal

abbrev pub invariant-loop-p : goal.invariant-loop-p
invariant-loop-p l =
    from_here l.declared l.job (jobs_of l.line) l.p l.claims ≡ standing_in l.declared l.job front (jobs_of l.line)
