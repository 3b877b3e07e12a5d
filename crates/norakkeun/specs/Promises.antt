-- What the exported functions promise, by what answers are in numbers.
use Rattle.std.specs.Prelude.{ℕ, List, ◌≡◌}
use Rattle.event.specs.declared.events.Entry.{Entry}
use Rattle.writing.specs.Meaning.{room_after, write_answer}
use Rattle.numbers.specs.Numbers.{refusal_in}

-- writing e into the room `before` answered r and left `after` there
pub record Recorded (e : Entry) (before : List ℕ) (r : ℕ) (after : List ℕ) : Type 0 where
  pub answers : r ≡ refusal_in (write_answer e before)
  pub leaves : after ≡ room_after e before

-- the version of the calls under C's names
abbrev pub version : ℕ
version = 1
