-- What a dump shows of a job.
use Rattle.wave.specs.Prelude.{ℕ}
use Rattle.arbiter.specs.Meaning.{report}
use Rattle.arbiter.specs.Sound.{row_in}
use Rattle.arbiter.specs.declared.table.Table.{Table}
use Rattle.follow.specs.Follow.{number_of, state_of}
use Rattle.follow.specs.declared.State.{State}
use Rattle.follow.specs.declared.State.TheVariants.{Idle, WaitsForToken, HasToken, WaitsForSet}
use Rattle.wave.specs.declared.variables.Variable.{Variable}
use Rattle.wave.specs.declared.variables.Variable.TheVariants as variable
use Rattle.wave.specs.declared.variables.View.{View}

-- what it shows of a job of a table: how it stands, and its sets
abbrev pub view_of : Table → ℕ → View
view_of t job =
    let row = row_in t job in
    record { state = state_of (report t job); declared = row.declared; held = row.held; asked = row.asked }

-- the bit of a token
abbrev pub token_bit : State → ℕ
token_bit Idle = 0
token_bit WaitsForToken = 0
token_bit HasToken = 1
token_bit WaitsForSet = 1

-- the bit of a wait
abbrev pub wait_bit : State → ℕ
wait_bit Idle = 0
wait_bit WaitsForToken = 1
wait_bit HasToken = 0
wait_bit WaitsForSet = 1

-- the value of a variable
abbrev pub value_of : Variable → View → ℕ
value_of variable.State v = number_of v.state
value_of variable.Token v = token_bit v.state
value_of variable.Waits v = wait_bit v.state
value_of variable.Declared v = v.declared
value_of variable.Held v = v.held
value_of variable.Asked v = v.asked
