-- The values that were read, one for each width, are the fields in their order.
use Rattle.service.specs.Prelude.{arith}
use Rattle.service.specs.FieldsIn.{row_read}
use Rattle.service.proofs.parts.row_in.Goals as goal

pub returns : goal.returns
returns c = rw c.from.ensures (row_read c.args.bytes.now _ _ (omega arith) c.read_all.ensures)
