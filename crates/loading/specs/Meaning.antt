-- What loading a table from bytes answers, and the table that it hands back.
use Rattle.std.specs.Prelude.{ℕ, List}
use Rattle.arbiter.specs.Answers.{Said, says_done}
use Rattle.arbiter.specs.Meaning.{no_table}
use Rattle.arbiter.specs.declared.table.Table.{Table}
use Rattle.laws.specs.Cases.{Outcome, leaves, outcome}
use Rattle.service.specs.File.{read_cases, table_in}

-- what loading answers
unfoldable pub load_answer : List ℕ → Outcome Said
load_answer bs = outcome (read_cases bs) says_done

-- the table that it hands back; a refused one hands back the all-zero table, which is unsound
unfoldable pub load_table : List ℕ → Table
load_table bs = leaves (read_cases bs) no_table (table_in bs)
