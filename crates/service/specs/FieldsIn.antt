-- What bytes hold, field by field: named and put in order again, the fields are what was unpacked.
use Rattle.std.specs.Prelude.{◌++◌, ◌≡◌, ◌≤◌}
use Rattle.service.specs.Prelude.{Fit, List, ◌∙◌, ap, append-nil, arith, drop_of_length-le, fit_unpack, length, length_unpack, over, subst, sym, unpack, unpack_each, ℕ}
use Rattle.service.specs.File.{head_in, head_named, head_order, head_widths, row_in, row_named, row_order, row_widths}
use Rattle.service.specs.Promises.{ReadHead, ReadRow}
use Rattle.service.specs.declared.format.FileHead.{FileHead}
use Rattle.service.specs.declared.format.FileRow.{FileRow}

module _ (bs : List ℕ) where
  pub head_order_lem : head_order (head_in bs) ≡ unpack (head_order head_widths) bs
  head_order_lem =
      let each = unpack_each bs (head_order head_widths) in
      ap (λ (ns : List ℕ). head_order (head_named ns)) each ∙ sym each

  pub row_order_lem : row_order (row_in bs) ≡ unpack (row_order row_widths) bs
  row_order_lem =
      let each = unpack_each bs (row_order row_widths) in
      ap (λ (ns : List ℕ). row_order (row_named ns)) each ∙ sym each

  pub head_fits : Fit (head_order head_widths) (head_order (head_in bs))
  head_fits = subst (Fit (head_order head_widths)) (sym head_order_lem) (fit_unpack (head_order head_widths) bs)

  pub row_fits : Fit (row_order row_widths) (row_order (row_in bs))
  row_fits = subst (Fit (row_order row_widths)) (sym row_order_lem) (fit_unpack (row_order row_widths) bs)

-- what was read over as many values as there are fields
all_read : (ws bs before : List ℕ) → length before ≤ length ws → over (unpack ws bs) before ≡ unpack ws bs
unfolding over
all_read ws bs before h =
    let none = drop_of_length-le before {i = length (unpack ws bs)} (omega (arith, length_unpack ws bs)) in
    ap (λ (l : List ℕ). unpack ws bs ++ l) none ∙ append-nil (unpack ws bs)

-- the fields that were read, by their names
pub head_read :
    (bs before after : List ℕ) → length before ≤ 8 → after ≡ over (unpack (head_order head_widths) bs) before → ReadHead bs (head_named after)
head_read bs before after h e =
    let is : head_named after ≡ head_in bs = ap head_named (e ∙ all_read (head_order head_widths) bs before h) in
    record { is = is; fits = subst (λ (x : FileHead). Fit (head_order head_widths) (head_order x)) (sym is) (head_fits bs) }

pub row_read :
    (bs before after : List ℕ) → length before ≤ 7 → after ≡ over (unpack (row_order row_widths) bs) before → ReadRow bs (row_named after)
row_read bs before after h e =
    let is : row_named after ≡ row_in bs = ap row_named (e ∙ all_read (row_order row_widths) bs before h) in
    record { is = is; fits = subst (λ (x : FileRow). Fit (row_order row_widths) (row_order x)) (sym is) (row_fits bs) }
