-- What saving a table into a room answers, and what it leaves there.
use Rattle.std.specs.Prelude.{ℕ, List, length}
use Rattle.arbiter.specs.declared.table.Table.{Table}
use Rattle.laws.specs.Cases.{Outcome, leaves, outcome}
use Rattle.laws.specs.Front.{over}
use Rattle.service.specs.File.{file, write_cases}

-- what saving answers: the length of the file
unfoldable pub save_answer : Table → List ℕ → Outcome ℕ
save_answer t room = outcome (write_cases (length room) t) (length (file t))

-- the room after it: the file at the front, or all as it was
unfoldable pub room_after : Table → List ℕ → List ℕ
room_after t room = leaves (write_cases (length room) t) room (over (file t) room)
