-- What is shown of a service file.
use Rattle.std.specs.Prelude.{ℕ, List, [], ◌∷◌, ltb, length}
use Rattle.arbiter.specs.declared.table.Table.{Table}
use Rattle.decimal.specs.Text.{ascii}
use Rattle.event.specs.Refusals.{refusing}
use Rattle.event.specs.declared.refusal.Refusal.TheVariants.{WrongSize}
use Rattle.service.specs.File.{table_read}
use Rattle.laws.specs.Cases.{Case, Outcome, fine, leaves, outcome, refused}
use Rattle.laws.specs.Front.{over}
use Rattle.page.specs.Page.{page, page_room, word_and_numbers}

-- the page of a table that was read, or `no` and the number of the refusal
abbrev pub reading : Outcome Table → List ℕ
reading (refused n) = word_and_numbers (ascii "no") (n ∷ [])
reading (fine t) = page t

-- what is shown of these bytes
unfoldable pub shown : List ℕ → List ℕ
shown bs = reading (table_read bs)

-- when nothing is put into a room of this many bytes
abbrev pub show_cases : ℕ → List Case
show_cases room = refusing WrongSize (ltb room page_room) ∷ []

-- what is answered: the length of what is shown
unfoldable pub show_answer : List ℕ → List ℕ → Outcome ℕ
show_answer bs room = outcome (show_cases (length room)) (length (shown bs))

-- the room after it: what is shown at the front, or all as it was
unfoldable pub room_after : List ℕ → List ℕ → List ℕ
room_after bs room = leaves (show_cases (length room)) room (over (shown bs) room)
