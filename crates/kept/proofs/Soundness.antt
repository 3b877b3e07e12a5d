-- Every table that calls lead to from an accepted start is sound, so none is ever refused as 3.
use Rattle.std.specs.Prelude.{◌<◌, ◌^◌, ◌≡◌}
use Rattle.kept.specs.Prelude.{List, fine, run, sound, start_answer, start_table, true, ℕ}
use Rattle.kept.specs.Soundness.{events_sound, fresh_sound, start_ranges, start_fresh, never_unsound}
use Rattle.event.specs.declared.events.Event.{Event}
use Rattle.arbiter.specs.Answers as Answers
use Rattle.kept.specs.Words.{NeverUnsound}

-- an accepted start gives a sound table
pub start_sound :
    (T R tick limit : ℕ) → tick < 2 ^ 32 → start_answer T R limit ≡ fine Answers.says_done → sound (start_table T R tick limit) ≡ true
start_sound T R tick limit h e = rw (start_fresh T R limit e tick) (fresh_sound T R tick limit (start_ranges T R limit e) h)

-- every table that events lead to from an accepted start is sound
pub run_sound :
    (T R tick limit : ℕ) → tick < 2 ^ 32 → start_answer T R limit ≡ fine Answers.says_done → (es : List Event) →
    sound (run (start_table T R tick limit) es) ≡ true
run_sound T R tick limit h ok es = events_sound (start_table T R tick limit) es (start_sound T R tick limit h ok)

-- so no call on one is refused as 3
pub run_never_unsound :
    (T R tick limit : ℕ) → tick < 2 ^ 32 → start_answer T R limit ≡ fine Answers.says_done → (es : List Event) →
    NeverUnsound (run (start_table T R tick limit) es)
run_never_unsound T R tick limit h ok es = never_unsound (run (start_table T R tick limit) es) (run_sound T R tick limit h ok es)
