-- The figures that are kept, and what is added to them.
use Rattle.std.specs.Prelude.{◌+◌, ◌-◌, ◌^◌}
use Rattle.figures.specs.Prelude.{None, Option, Some, get_or, jobs, max, min, replicate, set, ℕ}
use Rattle.event.specs.declared.events.Kind.{Kind}
use Rattle.event.specs.declared.events.Kind.TheVariants.{Beat, Open, Ask, Release, Complete, GiveUp}
use Rattle.follow.specs.declared.State.{State}
use Rattle.follow.specs.declared.State.TheVariants.{Idle, WaitsForToken, HasToken, WaitsForSet}
use Rattle.figures.specs.declared.sheet.Figures.{Figures}
use Rattle.figures.specs.declared.sheet.JobFigures.{JobFigures}
use Rattle.figures.specs.declared.sheet.Overdue.{Overdue}
use Rattle.figures.specs.declared.sheet.Stamp.{Stamp}

-- one more, as long as there are numbers
abbrev pub more : ℕ → ℕ
more n = min (n + 1) (2 ^ 64 - 1)

-- the figures of a job that no record names
abbrev pub unnamed : JobFigures
unnamed =
    record {
      named = 0;
      openings = 0;
      completions = 0;
      refusals = 0;
      token_wait = 0;
      set_wait = 0;
      request = 0;
      overdue = None;
      opened = 0;
    }

-- the figures before the first record
abbrev pub no_figures : Figures
no_figures =
    record {
      jobs = replicate jobs unnamed;
      refused = 0;
      by_number = replicate 24 0;
      from = 0;
      most_live = 0;
      most_tokens = 0;
    }

-- the figures of a job
abbrev pub figures_of : Figures → ℕ → JobFigures
figures_of f job = get_or f.jobs job unnamed

-- the figures with these for a job; one that no table has is counted nowhere
abbrev pub with_job : Figures → ℕ → JobFigures → Figures
with_job f job j = record f { jobs = set f.jobs job j }

-- the figures after a record was refused: it counts in all and under its number
abbrev pub refused_as : Figures → ℕ → Figures
refused_as f n = record f { refused = more f.refused; by_number = set f.by_number n (more (get_or f.by_number n 0)) }

-- those after so many requests were live and so many tokens in use
abbrev pub raised : Figures → ℕ → ℕ → Figures
raised f live tokens = record f { most_live = max f.most_live live; most_tokens = max f.most_tokens tokens }

-- ---- Those of a job

-- one more refused record names it
abbrev pub refused_once : JobFigures → JobFigures
refused_once j = record j { refusals = more j.refusals }

-- an event of this kind that names it was accepted at a time
abbrev pub accepted_at : Kind → ℕ → JobFigures → JobFigures
accepted_at Open time j = record j { openings = more j.openings; opened = time }
accepted_at Complete time j = record j { completions = more j.completions; request = max j.request (time - j.opened) }
accepted_at Beat time j = j
accepted_at Ask time j = j
accepted_at Release time j = j
accepted_at GiveUp time j = j

-- it waited so long, for its token or for its set
abbrev pub waited : State → ℕ → JobFigures → JobFigures
waited WaitsForToken long j = record j { token_wait = max j.token_wait long }
waited WaitsForSet long j = record j { set_wait = max j.set_wait long }
waited Idle long j = j
waited HasToken long j = j

-- the first record at which it is overdue, unless one is known
abbrev pub first_late : Option Overdue → Stamp → Stamp
first_late None at = at
first_late (Some known) at = known.first

-- at how many records it was overdue before
abbrev pub late_before : Option Overdue → ℕ
late_before None = 0
late_before (Some known) = known.records

-- it is overdue at a record
abbrev pub late_at : Stamp → JobFigures → JobFigures
late_at at j =
    record j { overdue = Some (record { records = more (late_before j.overdue); first = first_late j.overdue at; last = at }) }
