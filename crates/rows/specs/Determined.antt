-- Each promise of this crate determines what is known, marked or listed.
use Rattle.std.specs.Prelude.{◌&&◌, ◌≡◌}
use Rattle.rows.specs.Prelude.{Bool, List, Row, Standing, ◌∙◌, and-false, ap, determined, ext, false, false≢true, meets, meets_reads, member, member_without, not, refl, sym, true, without, ℕ}
use Rattle.rows.specs.Stand.{Stands}

-- sets that meet the same sets are one
meets_tell : (s t : ℕ) → ((x : ℕ) → meets s x ≡ meets t x) → s ≡ t
meets_tell s t same = ext (λ a. go a (member s a) refl (member t a) refl)
  where
    -- what only one has makes a set that only one meets
    only : (s t a : ℕ) → meets s (without s t) ≡ meets t (without s t) → member s a ≡ true → member t a ≡ false → ⊥
    only s t a same p q =
        let left = without s t in
        let own : member left a ≡ true = member_without s t a ∙ (λ i. p i && not (q i)) in
        let shared = (meets_reads t left).holds.0 (sym same ∙ (meets_reads s left).holds.1 (a, p, own)) in
        let out : (member s shared.0 && not (member t shared.0)) ≡ false =
        ap (λ (b : Bool). member s shared.0 && not b) shared.1 ∙ and-false (member s shared.0) in
        false≢true (sym out ∙ sym (member_without s t shared.0) ∙ shared.2)

    go : (a : ℕ) (b : Bool) → member s a ≡ b → (c : Bool) → member t a ≡ c → b ≡ c
    go a true p true q = refl
    go a true p false q = absurd (only s t a (same (without s t)) p q)
    go a false p true q = absurd (only t s a (sym (same (without t s))) q p)
    go a false p false q = refl

pub standing_determined : {rows : List Row} {n : ℕ} {s s' : Standing} → Stands rows n s → Stands rows n s' → s ≡ s'
standing_determined {s = s} {s' = s'} p q =
    let ahead : s.ahead ≡ s'.ahead = determined p.before q.before in
    let claims : s.claims ≡ s'.claims = meets_tell s.claims s'.claims (λ x. determined (p.forbids x) (q.forbids x)) in
    λ i. record { ahead = ahead i; claims = claims i }
