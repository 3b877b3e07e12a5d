-- The loop keeps: the numbers so far are written, and none took more than its room.
use Rattle.page.specs.Prelude.{arith, get_or, item_pieces, length_text_u64, putting_all, putting_length, putting_more, putting_none, refl}
use Rattle.page.specs.Page.{number_room}
use Rattle.page.proofs.put_numbers.Goals as goal

pub loop-n-init : goal.loop-n-init
loop-n-init c = putting_none item_pieces c.args.numbers.now number_room c.args.page.now (omega arith)

pub word-requires : goal.word-requires
word-requires c =
    omega (arith, putting_length c.loop-n.invariant, length_text_u64 (get_or c.args.numbers.now c.loop-n.n-index 0) (omega arith))

pub loop-n-preserved : goal.loop-n-preserved
loop-n-preserved c =
    let w = c.word.ensures in
    putting_more item_pieces 0 (omega arith) refl c.loop-n.invariant w
    (omega (arith, w.wrote.ends, length_text_u64 (get_or c.args.numbers.now c.loop-n.n-index 0) (omega arith)))

pub returns-clause-puts : goal.returns-clause-puts
returns-clause-puts c = putting_all c.loop-n.invariant (omega arith)
