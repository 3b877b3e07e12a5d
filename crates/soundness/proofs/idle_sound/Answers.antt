-- Numbers have no bit among them exactly if each is zero.
use Rattle.std.specs.Prelude.{◌∷◌, ◌≡◌}
use Rattle.soundness.specs.Prelude.{[], all, and_assoc, and-true, bit_or, eqb, holds, union, union_none, ℕ}
use Rattle.soundness.proofs.idle_sound.Goals as goal

-- none of four numbers has a bit set
none-set : (a b c d : ℕ) → eqb (bit_or (bit_or (bit_or a b) c) d) 0 ≡ holds (eqb a 0 ∷ eqb b 0 ∷ eqb c 0 ∷ eqb d 0 ∷ [])
unfolding all union
none-set a b c d =
    rw (union_none (union (union a b) c) d, union_none (union a b) c, union_none a b, and-true, and_assoc, and_assoc)

pub returns : goal.returns
returns c = let r = c.args.r in none-set r.declared r.held r.asked r.since
