-- What loading promises.
use Rattle.std.specs.Prelude.{ℕ, List, ◌≡◌}
use Rattle.arbiter.specs.Answers.{said_of}
use Rattle.arbiter.specs.declared.table.Next.{Next}
use Rattle.loading.specs.Meaning.{load_answer, load_table}

-- Loading these bytes answered r, and handed its table back.
pub record Loaded (bs : List ℕ) (r : Next) : Type 0 where
  pub says : said_of r.answer ≡ load_answer bs
  pub hands : r.table ≡ load_table bs
