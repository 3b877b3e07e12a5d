-- So far those before are counted.
use Rattle.std.specs.Prelude.{◌≡◌, fold, take}
use Rattle.figures.specs.Counting.{woken_in}
use Rattle.figures.proofs.sheet.Figures.count_woken.Given as goal

abbrev pub invariant-loop-job : goal.invariant-loop-job
invariant-loop-job l = l.self ≡ fold (woken_in l.visit) l.initial.self (take l.job-index l.woken)
