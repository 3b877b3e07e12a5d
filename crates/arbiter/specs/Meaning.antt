-- What an accepted call does, as document 01 words it under "The events", and document 02 for give up; a refused one
-- changes nothing.
use Rattle.std.specs.Prelude.{ℕ, ◌+◌, cond, List, [], ◌∷◌, length, replicate, set}
use Rattle.event.specs.Clock.{difference}
use Rattle.event.specs.Events.{about, has_job, job_of, opens, tick_of}
use Rattle.event.specs.declared.events.Event.{Event}
use Rattle.event.specs.declared.events.Event.TheVariants.{Beat, Open, Ask, Release, Complete, GiveUp}
use Rattle.laws.specs.Cases.{Outcome, leaves, outcome}
use Rattle.laws.specs.Front.{over}
use Rattle.event.specs.Limits.{jobs}
use Rattle.rows.specs.Order.{ahead, blocked, idle, in_way, token, waiting}
use Rattle.rows.specs.Sweep.{settled, woken}
use Rattle.rows.specs.declared.row.Row.{Row}
use Rattle.request.specs.Change.{asking, giving_up, opening, releasing}
use Rattle.questions.specs.Late.{late_in}
use Rattle.arbiter.specs.Answers.{Said, says_done, says_granted, says_token, says_wait, says_woke}
use Rattle.arbiter.specs.Sound.{row_in}
use Rattle.arbiter.specs.Refusals.{cases, overdue_cases, report_cases, start_cases}
use Rattle.arbiter.specs.declared.table.Report.{Report}
use Rattle.arbiter.specs.declared.table.Table.{Table}

-- ---- The rows that events write

-- the true time that an accepted tick gives
abbrev pub time_at : Table → ℕ → ℕ
time_at t tick = t.time + difference t.time tick

-- a request opened at a time
abbrev pub opened_row : Table → ℕ → ℕ → Row
opened_row t time s = opening t.last.0 (token t.tokens t.rows (t.last.0 + 1)) time s

-- an ask: Q3 forbids the set where a live row of lower turn declares a member
abbrev pub asked_row : Table → Row → ℕ → ℕ → Row
asked_row t r time s = asking r (blocked t.rows r.turn.0 s) time s

-- ---- Accepted events

-- the table at this time, with this last turn and these rows
abbrev pub moved : Table → ℕ → ℕ → List Row → Table
moved t time last rows =
    record {
      tokens = t.tokens;
      resources = t.resources;
      limit = t.limit;
      time = time;
      last = record { 0 = last };
      rows = rows;
    }

-- what an accepted event at this time makes of the row of its job
abbrev pub row_after : Table → ℕ → Event → Row → Row
row_after t time (Beat tick) r = r
row_after t time (Open j tick s) r = opened_row t time s
row_after t time (Ask j tick s) r = asked_row t r time s
row_after t time (Release j tick s) r = releasing r s
row_after t time (Complete j tick) r = idle
row_after t time (GiveUp j tick s) r = giving_up r s

-- the rows with that row in its place; an event without a job changes none
abbrev pub rows_with : Table → Event → List Row
rows_with t e =
    cond (has_job (about e).role)
    (set t.rows (job_of e) (row_after t (time_at t (tick_of e)) e (row_in t (job_of e))))
    t.rows

-- the rows after an accepted event: where it may wake others, what these wait for is settled again
abbrev pub rows_after : Table → Event → List Row
rows_after t e = cond (about e).wakes (settled t.tokens (rows_with t e)) (rows_with t e)

-- the last turn given after an accepted event: an opening gives the next
abbrev pub last_after : Table → Event → ℕ
last_after t e = cond (opens (about e).role) (t.last.0 + 1) t.last.0

-- the next table of an accepted event
abbrev pub accepted : Table → Event → Table
accepted t e = moved t (time_at t (tick_of e)) (last_after t e) (rows_after t e)

-- the jobs that an accepted event wakes, in order of turn
abbrev pub wakes : Table → Event → List ℕ
wakes t e = cond (about e).wakes (woken t.tokens t.rows (rows_after t e)) []

-- an opening says "token" if it has one, else "wait"
abbrev pub open_says : Table → Said
open_says t = cond (token t.tokens t.rows (t.last.0 + 1)) says_token says_wait

-- an ask says "wait" where Q3 forbids the set, else "granted"
abbrev pub ask_says : Table → Row → ℕ → Said
ask_says t r s = cond (blocked t.rows r.turn.0 s) says_wait says_granted

-- the answer to an accepted event
abbrev pub said : Table → Event → Said
said t (Beat tick) = says_done
said t (Open j tick s) = open_says t
said t (Ask j tick s) = ask_says t (row_in t j) s
said t (Release j tick s) = says_done
said t (Complete j tick) = says_woke (length (wakes t (Complete j tick)))
said t (GiveUp j tick s) = says_woke (length (wakes t (GiveUp j tick s)))

-- ---- Any event, refused or not

-- the answer to an event, with a lent list of n entries
unfoldable pub answer : ℕ → Table → Event → Outcome Said
answer n t e = outcome (cases n t e) (said t e)

-- the table after an event
unfoldable pub next : ℕ → Table → Event → Table
next n t e = leaves (cases n t e) t (accepted t e)

-- the lent list after an event
unfoldable pub listed : Table → Event → List ℕ → List ℕ
listed t e out = leaves (cases (length out) t e) out (over (wakes t e) out)

-- ---- The start

-- the all-zero table, which is unsound
abbrev pub no_table : Table
no_table =
    record { tokens = 0; resources = 0; limit = 0; time = 0; last = record { 0 = 0 }; rows = replicate jobs idle }

-- a table at its start: true time is the start tick, no turn given, all rows idle
abbrev pub fresh_table : ℕ → ℕ → ℕ → ℕ → Table
fresh_table T R tick limit =
    record { tokens = T; resources = R; limit = limit; time = tick; last = record { 0 = 0 }; rows = replicate jobs idle }

-- the answer to a start: refused as 1, or simply done
unfoldable pub start_answer : ℕ → ℕ → ℕ → Outcome Said
start_answer T R limit = outcome (start_cases T R limit) says_done

-- a refused start hands back the all-zero table
unfoldable pub start_table : ℕ → ℕ → ℕ → ℕ → Table
start_table T R tick limit = leaves (start_cases T R limit) no_table (fresh_table T R tick limit)

-- ---- The questions

-- the report of a job's request
abbrev pub reported : Table → Row → Report
reported t r =
    record {
      turn = r.turn;
      token = token t.tokens t.rows r.turn.0;
      waiting = waiting t.tokens t.rows r;
      ahead = ahead t.rows r.turn.0;
      in_way = in_way t.rows r.turn.0 r.declared;
    }

-- the answer to a report of job j
unfoldable pub report : Table → ℕ → Outcome Report
report t j = outcome (report_cases t j) (reported t (row_in t j))

-- the waiting jobs whose wait up to this time is the limit or more, in order of turn
abbrev pub late_at : Table → ℕ → List ℕ
late_at t time = late_in t.tokens t.limit time t.rows

-- the same up to this tick; no clock moves
abbrev pub late : Table → ℕ → List ℕ
late t tick = late_at t (time_at t tick)

-- the answer to the question who is overdue at a tick, with a lent list of n entries: how many
unfoldable pub overdue : ℕ → Table → ℕ → Outcome ℕ
overdue n t tick = outcome (overdue_cases n t tick) (length (late t tick))

-- the lent list after that question
unfoldable pub overdue_list : Table → ℕ → List ℕ → List ℕ
overdue_list t tick out = leaves (overdue_cases (length out) t tick) out (over (late t tick) out)

-- ---- Sequences of events

-- one event after another, where an event leads from a table to the next
unfoldable pub course : (Table → Event → Table) → Table → List Event → Table
course leads t [] = t
course leads t (e ∷ es) = course leads (leads t e) es

-- each with a lent list that is long enough
abbrev pub run : Table → List Event → Table
run = course (next jobs)
