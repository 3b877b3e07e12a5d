-- What the functions behind the calls promise: a refusal, an accepted event.
use Rattle.std.specs.Prelude.{◌≡◌}
use Rattle.event.specs.Refusals.{number_of}
use Rattle.event.specs.declared.refusal.Refusal.{Refusal}
use Rattle.laws.specs.Cases.{fine, refused}
use Rattle.arbiter.specs.Answers.{Said, said_of}
use Rattle.arbiter.specs.declared.table.Next.{Next}
use Rattle.arbiter.specs.declared.table.Table.{Table}

-- a refused event was answered with the refusal's number and left the table as it was
pub record Refuses (t : Table) (refusal : Refusal) (r : Next) : Type 0 where
  pub says : said_of r.answer ≡ refused (number_of refusal)
  pub hands : r.table ≡ t

-- an accepted event was answered with this and left this table
pub record Does (said : Said) (table : Table) (r : Next) : Type 0 where
  pub says : said_of r.answer ≡ fine said
  pub hands : r.table ≡ table
