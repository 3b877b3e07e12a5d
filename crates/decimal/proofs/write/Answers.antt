-- The digits before place k are to come.
use Rattle.std.specs.Prelude.{◌+◌, ◌-◌, ◌≡◌}
use Rattle.decimal.specs.Prelude.{arith, refl}
use Rattle.decimal.specs.TextLaws.{length_text_pos}
use Rattle.decimal.proofs.Backwards.{last_written}
use Rattle.decimal.proofs.write.Goals as goal

pub loop-k-init : goal.loop-k-init
loop-k-init c =
    let some = length_text_pos c.args.n in
    record { place = λ _. omega arith; rest = λ _. refl; done = λ none. absurd (omega arith) }

pub loop-k-preserved : goal.loop-k-preserved
loop-k-preserved c =
    let l = c.loop-k in
    let next : l.k ≡ l.k - 1 + 1 = omega arith in
    last_written _ l.out c.args.at (l.k - 1) l.left (omega arith) (omega arith) (rw next at l.invariant)
