-- The row begins after the head and the rows before it.
use Rattle.std.specs.Prelude.{◌*◌, ◌+◌, ◌-◌}
use Rattle.loading.specs.Prelude.{List, arith, drop, drop-drop, length, length-drop, subst, sym, take_all, ℕ, ◌∙◌}
use Rattle.service.specs.File.{head_size, row_size}
use Rattle.service.specs.Promises.{ReadRow}
use Rattle.loading.proofs.row_at.Goals as goal

pub returns : goal.returns
returns c =
    let bs = c.args.file.now in
    let from = head_size + row_size * c.args.i in
    subst (λ (l : List ℕ). ReadRow l c.row_in.result)
    (take_all (length bs - from) (drop from bs) (omega (arith, length-drop from bs))
    ∙ sym (drop-drop (row_size * c.args.i) head_size bs))
    c.row_in.ensures
