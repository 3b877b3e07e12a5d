-- The lines of what calls say: a word, and then numbers, a blank before each.
use Rattle.std.specs.Prelude.{ℕ, ◌-◌, List, [], ◌∷◌, ◌++◌, length, map, replicate, Option, None, Some}
use Prim.Native.String.{String}
use Rattle.laws.specs.Bools.{bit}
use Rattle.laws.specs.Cases.{Outcome, fine, refused}
use Rattle.arbiter.specs.Answers.{Said, says_done, says_granted, says_token, says_wait, says_woke}
use Rattle.arbiter.specs.declared.table.Report.{Report}
use Rattle.called.specs.declared.lines.Line.{Line}
use Rattle.called.specs.declared.lines.Word.{Word}
use Rattle.called.specs.declared.lines.Word.TheVariants as word

-- these numbers, and none in the places after them
abbrev pub padded : List ℕ → List (Option ℕ)
padded ns = map Some ns ++ replicate (5 - length ns) None

-- the text of a word
abbrev pub text_of : Word → String
text_of word.No = " no"
text_of word.Token = " token"
text_of word.Granted = " granted"
text_of word.Wait = " wait"
text_of word.Done = " done"
text_of word.Woke = " woke"
text_of word.Overdue = " overdue"
text_of word.Wrote = " wrote"
text_of word.Report = " report"

-- the line of a word and these numbers, a blank before each
abbrev pub says : Word → List ℕ → Line
says word ns = record { word = word; mark = 32; numbers = padded ns }

-- the line of a refusal
abbrev pub refusal_line : ℕ → Line
refusal_line n = says word.No (n ∷ [])

-- the line of the answer to an event or a start
abbrev pub answer_line : Outcome Said → Line
answer_line (refused n) = refusal_line n
answer_line (fine says_token) = says word.Token []
answer_line (fine says_granted) = says word.Granted []
answer_line (fine says_wait) = says word.Wait []
answer_line (fine says_done) = says word.Done []
answer_line (fine (says_woke n)) = says word.Woke (n ∷ [])

-- the line of how many are overdue
abbrev pub late_line : Outcome ℕ → Line
late_line (refused n) = refusal_line n
late_line (fine n) = says word.Overdue (n ∷ [])

-- the line of what writing gave
abbrev pub writing_line : Outcome (Unit {0}) → Line
writing_line (refused n) = refusal_line n
writing_line (fine done) = says word.Wrote []

-- the line of a request that is reported
abbrev pub request_line : Report → Line
request_line r =
    says word.Report (r.turn.0 ∷ bit r.token ∷ bit r.waiting ∷ r.ahead ∷ r.in_way ∷ [])

-- the line of a report
abbrev pub report_line : Outcome Report → Line
report_line (refused n) = refusal_line n
report_line (fine r) = request_line r
