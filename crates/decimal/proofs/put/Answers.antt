-- The text copied over a part of the buffer is the text laid there.
use Rattle.std.specs.Prelude.{◌≡◌}
use Rattle.decimal.specs.Prelude.{List, append_assoc, arith, drop-drop, laid, length, refl, take, ℕ}
use Rattle.decimal.proofs.put.Goals as goal
use borrow.Rule.Slice.PartMut.{put_mid}

copied : (out text : List ℕ) (at n : ℕ) → n ≡ length text → put_mid at n out text ≡ laid out at text
unfolding laid
copied out text at n long = rw (long, drop-drop (length text) at out, append_assoc (take at out) text)

pub returns : goal.returns
returns c = record {
  room = c.requires;
  ends = refl;
  left = rw c.copy_from_slice.ensures.after (copied _ _ c.args.at _ (omega arith));
}
