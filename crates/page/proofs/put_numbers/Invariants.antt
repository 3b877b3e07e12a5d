-- The loop keeps: the numbers so far are written, and none took more than its room.
use Rattle.page.specs.Prelude.{Putting, items}
use Rattle.page.specs.Page.{number_room}
use Rattle.page.proofs.put_numbers.Given as goal

abbrev pub invariant-loop-n : goal.invariant-loop-n
invariant-loop-n l = Putting items l.numbers number_room l.initial.page l.n-index l.page
