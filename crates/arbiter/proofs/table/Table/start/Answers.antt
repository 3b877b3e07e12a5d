-- The one test is the one case; all rows are the idle row.
use Rattle.arbiter.specs.Prelude.{Next, Table, ap, leaves_is, none, not, outcome_is, past, sym, this, ◌∙◌}
use Rattle.arbiter.specs.Answers.{said_of}
use Rattle.arbiter.specs.Meaning.{start_answer, start_table}
use Rattle.arbiter.proofs.table.Table.start.Goals as goal

pub returns-then-not-in_range : goal.returns-then-not-in_range
unfolding start_answer start_table
returns-then-not-in_range c =
    let is = c.refused.ensures in
    record {
      says = ap (λ (n : Next). said_of n.answer) is ∙ outcome_is _ (this (ap not (sym c.in_range.ensures ∙ c.if-not-in_range.true)));
      hands =
          ap (λ (n : Next). n.table) is ∙ c.zero.ensures
          ∙ leaves_is _ _ (this (ap not (sym c.in_range.ensures ∙ c.if-not-in_range.true)));
    }

pub returns : goal.returns
unfolding start_answer start_table
returns c =
    let a = c.args in
    record {
      says = outcome_is _ (past (ap not (sym c.in_range.ensures ∙ c.if-not-in_range.false)) none);
      hands =
          ap
          (λ (t : Table).
          record { tokens = a.tokens; resources = a.resources; limit = a.limit; time = a.tick.0; last = t.last; rows = t.rows })
          c.zero-2.ensures
          ∙ leaves_is _ _ (past (ap not (sym c.in_range.ensures ∙ c.if-not-in_range.false)) none);
    }
