-- The rows before the present job are those of the bytes.
use Rattle.std.specs.Prelude.{◌≡◌}
use Rattle.cases.specs.Prelude.{Filled, idle, jobs, length}
use Rattle.cases.specs.Layout.{row_at}
use Rattle.cases.proofs.layout.rows_of.Given as goal

abbrev pub invariant-loop-job : goal.invariant-loop-job
invariant-loop-job l = record {
  long : length l.row-items ≡ jobs;
  filled : Filled (λ k r. r ≡ row_at l.bytes k) idle l.row-items l.job;
}
