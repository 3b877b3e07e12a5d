-- Word by word.
use Rattle.called.proofs.lines.Word.text.Goals as goal

pub returns-in-No : goal.returns-in-No
returns-in-No c = rw c.in-No.is

pub returns-in-Token : goal.returns-in-Token
returns-in-Token c = rw c.in-Token.is

pub returns-in-Granted : goal.returns-in-Granted
returns-in-Granted c = rw c.in-Granted.is

pub returns-in-Wait : goal.returns-in-Wait
returns-in-Wait c = rw c.in-Wait.is

pub returns-in-Done : goal.returns-in-Done
returns-in-Done c = rw c.in-Done.is

pub returns-in-Woke : goal.returns-in-Woke
returns-in-Woke c = rw c.in-Woke.is

pub returns-in-Overdue : goal.returns-in-Overdue
returns-in-Overdue c = rw c.in-Overdue.is

pub returns-in-Wrote : goal.returns-in-Wrote
returns-in-Wrote c = rw c.in-Wrote.is

pub returns-in-Report : goal.returns-in-Report
returns-in-Report c = rw c.in-Report.is
