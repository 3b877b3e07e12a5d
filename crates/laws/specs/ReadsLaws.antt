-- What it takes to read a test in both directions.
use Rattle.std.specs.Prelude.{◌≡◌}
use Rattle.laws.specs.Prelude.{Bool, ap, false, false≢true, not, not-false, not-true, refl, true, true≢false}
use Rattle.laws.specs.Reads.{Reads}

-- one direction of each is enough, since the two cannot both be
pub reading : {P Q : Type 0} (test : Bool) → (test ≡ true → P) → (test ≡ false → Q) → (P → Q → ⊥) → Reads test P Q
reading true p q clash = record { holds = (p, λ _. refl); fails = (λ e. absurd (true≢false e), λ y. absurd (clash (p refl) y)) }
reading false p q clash = record { holds = (λ e. absurd (false≢true e), λ x. absurd (clash x (q refl))); fails = (q, λ _. refl) }

-- the opposite test reads the other way round
pub reads_not : {P Q : Type 0} (test : Bool) → Reads test P Q → Reads (not test) Q P
reads_not test r = record {
  holds = (λ e. r.fails.0 (not-true test e), λ q. ap not (r.fails.1 q));
  fails = (λ e. r.holds.0 (not-false test e), λ p. ap not (r.holds.1 p));
}
