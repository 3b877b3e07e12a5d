-- A load answers and hands back what the bytes are read as.
use Rattle.std.specs.Prelude.{Result}
use Rattle.loading.specs.Prelude.{Refusal, ap, number_of, outcome_of, sym, ◌∙◌}
use Rattle.loading.specs.ReadBack.{load_reads, load_refuses}
use Rattle.loading.specs.Taking.{with_left}
use Rattle.loading.proofs.load.Goals as goal

pub returns-in-Err : goal.returns-in-Err
returns-in-Err c =
    let told = ap (λ (r : Result Unit Refusal). outcome_of (with_left r c.read_into.new.table)) (sym c.in-Err.is) in
    let read = load_refuses c.args.file.now (number_of c.in-Err.refusal) (sym (told ∙ c.read_into.ensures)) in
    rw (c.refused.ensures, c.zero-in-Err.ensures) (record { says = sym read.0; hands = sym read.1 })

pub returns : goal.returns
returns c =
    let told = ap (λ (r : Result Unit Refusal). outcome_of (with_left r c.read_into.new.table)) (sym c.in_default.is) in
    let read = load_reads c.args.file.now c.read_into.new.table (sym (told ∙ c.read_into.ensures)) in
    record { says = sym read.0; hands = sym read.1 }
