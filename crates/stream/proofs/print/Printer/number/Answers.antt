-- A number has at most 20 digits, and what was written at the front of the array is its text.
use Rattle.std.specs.Prelude.{◌≡◌}
use Rattle.stream.specs.Prelude.{List, Wrote, arith, drop, laid_front, length, length_text_u64, over, refl, take, take_at, zero-add, ℕ}
use Rattle.stream.proofs.print.Printer.number.Goals as goal

-- what was written at the front is what stands there
front : {before t after : List ℕ} {end : ℕ} → Wrote before 0 t end after → take end after ≡ t
unfolding over
front {before} {t} w = rw (w.ends, w.left, zero-add, laid_front) (take_at t (drop (length t) before) (length t) refl)

pub write-end-requires : goal.write-end-requires
write-end-requires g c = omega (arith, length_text_u64 c.args.n c.ranges.n.fits)

pub returns-clause-printed : goal.returns-clause-printed
returns-clause-printed g c = rw (front c.write-end.ensures) at c.text.ensures.printed
