-- Answers in numbers, as firmware in C or Rust gets them.
use Rattle.std.specs.Prelude.{ℕ, false}
use Rattle.laws.specs.Cases.{Outcome, fine, refused}
use Rattle.arbiter.specs.Answers.{Said, says_done, says_granted, says_token, says_wait, says_woke}
use Rattle.arbiter.specs.Meaning.{answer, next}
use Rattle.arbiter.specs.declared.table.Report.{Report}
use Rattle.arbiter.specs.declared.table.Table.{Table}
use Rattle.event.specs.declared.events.Event.{Event}
use Rattle.numbers.specs.declared.EventAnswer.{EventAnswer}
use Rattle.numbers.specs.declared.JobReport.{JobReport}
use Rattle.numbers.specs.declared.LateJobs.{LateJobs}
use Rattle.numbers.specs.declared.SavedFile.{SavedFile}
use Rattle.numbers.specs.declared.Told.{Told}

-- the number of a refusal, or 0
abbrev pub refusal_in : {A : Type 0} → Outcome A → ℕ
refusal_in (refused n) = n
refusal_in (fine a) = 0

-- what was said: 0 a refusal, 1 "token", 2 "granted", 3 "wait", 4 simply done, 5 done, with the number woken beside it
abbrev pub said_in : Outcome Said → ℕ
said_in (refused n) = 0
said_in (fine says_token) = 1
said_in (fine says_granted) = 2
said_in (fine says_wait) = 3
said_in (fine says_done) = 4
said_in (fine (says_woke n)) = 5

-- how many were woken
abbrev pub woken_in : Outcome Said → ℕ
woken_in (refused n) = 0
woken_in (fine says_token) = 0
woken_in (fine says_granted) = 0
woken_in (fine says_wait) = 0
woken_in (fine says_done) = 0
woken_in (fine (says_woke n)) = n

-- an event's answer
abbrev pub answer_in_numbers : Outcome Said → EventAnswer
answer_in_numbers o = record { refusal = refusal_in o; said = said_in o; woken = woken_in o }

-- an event's answer and the next table
abbrev pub event_in_numbers : Outcome Said → Table → Told
event_in_numbers o t = record { refusal = refusal_in o; said = said_in o; woken = woken_in o; table = t }

-- the answer to event e on table t, with a lent list of n entries
abbrev pub event_told : ℕ → Table → Event → Told
event_told n t e = event_in_numbers (answer n t e) (next n t e)

-- the three numbers of the answer to an event
abbrev pub numbers_of : Told → EventAnswer
numbers_of t = record { refusal = t.refusal; said = t.said; woken = t.woken }

-- the report where there is none
abbrev pub no_report : Report
no_report = record { turn = record { 0 = 0 }; token = false; waiting = false; ahead = 0; in_way = 0 }

-- the report that was given
abbrev pub report_in : Outcome Report → Report
report_in (refused n) = no_report
report_in (fine r) = r

-- a report's answer
abbrev pub report_in_numbers : Outcome Report → JobReport
report_in_numbers o = record { refusal = refusal_in o; report = report_in o }

-- the number that was given
abbrev pub count_in : Outcome ℕ → ℕ
count_in (refused n) = 0
count_in (fine n) = n

-- the answer to who is overdue
abbrev pub late_in_numbers : Outcome ℕ → LateJobs
late_in_numbers o = record { refusal = refusal_in o; count = count_in o }

-- what saving a table gave
abbrev pub saved_in_numbers : Outcome ℕ → SavedFile
saved_in_numbers o = record { refusal = refusal_in o; length = count_in o }
