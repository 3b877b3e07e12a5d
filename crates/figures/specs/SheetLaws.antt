-- Laws of the figures.
use Rattle.std.specs.Prelude.{◌≡◌, refl}
use Rattle.figures.specs.Prelude.{None, Some}
use Rattle.figures.specs.Sheet.{first_late}
use Rattle.figures.specs.declared.sheet.Overdue.{Overdue}
use Rattle.figures.specs.declared.sheet.Stamp.{Stamp}

-- a first record is put down where none is known
pub first_new : (at : Stamp) → first_late None at ≡ at
first_new at = refl

-- and one that is known stays
pub first_known : (known : Overdue) (at : Stamp) → first_late (Some known) at ≡ known.first
first_known known at = refl
