-- What reading a head or a row gives.
use Rattle.std.specs.Prelude.{ℕ, List, ◌≡◌}
use Rattle.fields.specs.Fields.{Fit}
use Rattle.service.specs.File.{head_in, head_order, head_widths, row_in, row_order, row_widths}
use Rattle.service.specs.declared.format.FileHead.{FileHead}
use Rattle.service.specs.declared.format.FileRow.{FileRow}

-- h is the head with which the bytes begin, and so each field has no more bits than its width.
pub record ReadHead (bs : List ℕ) (h : FileHead) : Type 0 where
  pub is : h ≡ head_in bs
  pub fits : Fit (head_order head_widths) (head_order h)

-- f is the row with which the bytes begin, and so each field has no more bits than its width.
pub record ReadRow (bs : List ℕ) (f : FileRow) : Type 0 where
  pub is : f ≡ row_in bs
  pub fits : Fit (row_order row_widths) (row_order f)
