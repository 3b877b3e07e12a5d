-- What putting a table's page into a room answers, and what it leaves there.
use Rattle.std.specs.Prelude.{ℕ, not, List, [], ◌∷◌, ltb, length}
use Rattle.arbiter.specs.Sound.{sound}
use Rattle.arbiter.specs.declared.table.Table.{Table}
use Rattle.event.specs.Refusals.{refusing}
use Rattle.event.specs.declared.refusal.Refusal.TheVariants.{UnsoundTable, WrongSize}
use Rattle.laws.specs.Cases.{Case, Outcome, leaves, outcome}
use Rattle.laws.specs.Front.{over}
use Rattle.page.specs.Page.{page, page_room}

-- when no page is put into a room of this many bytes
abbrev pub page_cases : ℕ → Table → List Case
page_cases room t = refusing UnsoundTable (not (sound t)) ∷ refusing WrongSize (ltb room page_room) ∷ []

-- what is answered: the length of the page
unfoldable pub page_answer : Table → List ℕ → Outcome ℕ
page_answer t room = outcome (page_cases (length room) t) (length (page t))

-- the room after it: the page at the front, or all as it was
unfoldable pub room_after : Table → List ℕ → List ℕ
room_after t room = leaves (page_cases (length room) t) room (over (page t) room)
