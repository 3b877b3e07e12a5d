-- What the call of a case leaves.
use Rattle.std.specs.Prelude.{ℕ, cond, List, length}
use Rattle.event.specs.Events.{described}
use Rattle.event.specs.declared.events.Entry.{Entry}
use Rattle.event.specs.declared.events.Entry.TheVariants as entry
use Rattle.event.specs.declared.events.Event.{Event}
use Rattle.event.specs.declared.events.Kind.{Kind}
use Rattle.writing.specs.Meaning.{room_after, write_answer}
use Rattle.arbiter.specs.Meaning.{answer, listed, next, overdue, overdue_list, report, start_answer, start_table}
use Rattle.arbiter.specs.declared.table.Table.{Table}
use Rattle.cases.specs.Calls.{case_event, case_start}
use Rattle.cases.specs.declared.calls.Call.{Call}
use Rattle.cases.specs.declared.calls.Call.TheVariants as call
use Rattle.cases.specs.declared.layout.Case.{Case}
use Rattle.called.specs.Lines.{answer_line, late_line, report_line, writing_line}
use Rattle.called.specs.declared.lines.Line.{Line}
use Rattle.called.specs.declared.made.Left.{Left}
use Rattle.called.specs.declared.made.Part.{Part}
use Rattle.called.specs.declared.made.Part.TheVariants as part

-- what is shown after the answer to an event of that kind: the list, if it may wake others
abbrev pub list_of : Kind → Part
list_of k = cond (described k).wakes part.List part.Nothing

-- a line, a part after it, and then this table
abbrev pub tabled : Line → Part → Table → Left
tabled line then t = record { line = line; then = then; last = part.Table; table = t }

-- a line, and the list after it; the table is kept, and not shown
abbrev pub untabled : Line → Table → Left
untabled line t = record { line = line; then = part.List; last = part.Nothing; table = t }

-- what an event on a table leaves, with a list of n entries lent, and this part after its answer
abbrev pub event_left : ℕ → Table → Part → Event → Left
event_left n t then e = tabled (answer_line (answer n t e)) then (next n t e)

-- what a report of job j leaves
abbrev pub report_left : Table → ℕ → Left
report_left t j = tabled (report_line (report t j)) part.Nothing t

-- what the question who is overdue at a tick leaves, with a list of n entries lent
abbrev pub overdue_left : ℕ → Table → ℕ → Left
overdue_left n t tick = tabled (late_line (overdue n t tick)) part.List t

-- what a start at a tick leaves, with the numbers of a table
abbrev pub start_left : Table → ℕ → Left
start_left t tick =
    tabled (answer_line (start_answer t.tokens t.resources t.limit)) part.Nothing
    (start_table t.tokens t.resources tick t.limit)

-- what the writing of an entry into the list `lent` leaves
abbrev pub write_left : Table → List ℕ → Entry → Left
write_left t lent e = untabled (writing_line (write_answer e lent)) t

-- what each call of a case leaves, on its table and with this list lent
abbrev pub left : Case → Table → List ℕ → Call → Left
left c t lent (call.Event k) = event_left (length lent) t (list_of k) (case_event c k)
left c t lent call.Report = report_left t c.job
left c t lent call.Overdue = overdue_left (length lent) t c.tick.0
left c t lent call.Start = start_left t c.tick.0
left c t lent (call.Write k) = write_left t lent (entry.Event (case_event c k))
left c t lent call.WriteStart = write_left t lent (entry.Start (case_start c t))

-- the lent list after it
abbrev pub list_after : Case → Table → List ℕ → Call → List ℕ
list_after c t lent (call.Event k) = listed t (case_event c k) lent
list_after c t lent call.Report = lent
list_after c t lent call.Overdue = overdue_list t c.tick.0 lent
list_after c t lent call.Start = lent
list_after c t lent (call.Write k) = room_after (entry.Event (case_event c k)) lent
list_after c t lent call.WriteStart = room_after (entry.Start (case_start c t)) lent
