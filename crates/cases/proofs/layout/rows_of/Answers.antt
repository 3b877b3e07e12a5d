-- The rows before the present job are those of the bytes.
use Rattle.std.specs.Prelude.{◌≡◌}
use Rattle.cases.specs.Prelude.{arith, filled_more, idle, length-set, refl, ◌∙◌}
use Rattle.cases.specs.Layout.{row_at}
use Rattle.cases.proofs.layout.rows_of.Goals as goal

pub loop-job-init : goal.loop-job-init
loop-job-init c = record { long = refl; filled = λ k below. absurd (omega arith) }

pub loop-job-preserved : goal.loop-job-preserved
loop-job-preserved c =
    let rows = c.loop-job.row-items in
    let job = c.loop-job.job in
    let now = c.loop-job.invariant in
    record {
      long = length-set rows job _ ∙ now.long;
      filled = filled_more (λ k r. r ≡ row_at c.args.bytes.now k) idle rows job c.row_at.result (omega arith) now.filled c.row_at.ensures;
    }
