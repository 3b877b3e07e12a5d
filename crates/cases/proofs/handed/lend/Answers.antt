-- The entries before the present one are filled.
use Rattle.std.specs.Prelude.{◌%◌, ◌*◌, ◌+◌, ◌/◌, ◌<◌, ◌≡◌}
use Rattle.cases.specs.Prelude.{List, ◌∙◌, add-one, ap, arith, length, mul-add-mod_self_right, refl, set, sym, take, take-length, take-suc-set, ℕ}
use Rattle.cases.specs.Calls.{lent}
use Rattle.cases.proofs.handed.lend.Goals as goal

-- 7i may be computed from the remainder of i
entry-same : (i : ℕ) → (i % 256 * 7 + 3) % 256 ≡ (7 * i + 3) % 256
entry-same i =
    let whole : 7 * (i / 256) * 256 + (i % 256 * 7 + 3) ≡ 7 * i + 3 = omega arith in
    sym (mul-add-mod_self_right (7 * (i / 256)) 256 (i % 256 * 7 + 3)) ∙ ap (λ (n : ℕ). n % 256) whole

-- one more entry
one_more : (list : List ℕ) (i : ℕ) → i < length list → take i list ≡ lent i →
    take (i + 1) (set list i ((i % 256 * 7 + 3) % 256)) ≡ lent (i + 1)
unfolding lent
one_more list i h e = rw (add-one, take-suc-set list i _ h, e, entry-same i)

pub loop-i-init : goal.loop-i-init
unfolding lent
loop-i-init c = refl

pub loop-i-preserved : goal.loop-i-preserved
loop-i-preserved c = one_more c.loop-i.list c.loop-i.i (omega arith) c.loop-i.invariant

pub returns : goal.returns
returns c =
    let list = c.loop-i.list in
    let full : c.loop-i.i ≡ length list = omega arith in
    let long = c.loop-i.auto.list in
    sym (take-length list) ∙ rw full at c.loop-i.invariant ∙ ap lent long
