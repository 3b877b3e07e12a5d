-- Parts of an event's cases that are joined on the way to its verdict, as code joins them.
use Rattle.std.specs.Prelude.{ℕ, List, ◌∷◌, ◌++◌}
use Rattle.event.specs.Refusals.{refusing}
use Rattle.event.specs.declared.refusal.Refusal.TheVariants.{AlreadyLive}
use Rattle.grounds.specs.Grounds.{actor_cases, entry_cases, set_cases, turn_cases}
use Rattle.grounds.specs.Refusals.{Call}
use Rattle.laws.specs.Cases.{Case}
use Rattle.rows.specs.Order.{live}
use Rattle.request.specs.declared.seen.Seen.{Seen}

-- of a job that acts on a set
abbrev pub act_on_cases : Seen → Call → List Case
act_on_cases s c = (entry_cases s c ++ actor_cases s) ++ set_cases s.resources c.set

-- of an opening itself
abbrev pub open_cases : Seen → ℕ → List Case
open_cases s set = refusing AlreadyLive (live s.row) ∷ set_cases s.resources set ++ turn_cases s.last.0
