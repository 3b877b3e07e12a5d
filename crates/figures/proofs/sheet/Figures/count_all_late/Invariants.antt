-- So far those before are counted.
use Rattle.std.specs.Prelude.{◌≡◌, fold, take}
use Rattle.figures.specs.Counting.{late_in}
use Rattle.figures.proofs.sheet.Figures.count_all_late.Given as goal

abbrev pub invariant-loop-job : goal.invariant-loop-job
invariant-loop-job l = l.self ≡ fold (late_in l.at) l.initial.self (take l.job-index l.list)
