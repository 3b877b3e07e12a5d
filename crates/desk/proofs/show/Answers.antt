-- The room is tested first; then the file has a table or is refused.
use Rattle.desk.specs.Prelude.{ap, lt-ltb, number_of, outcome_of, refl, sym, this, ◌∙◌}
use Rattle.desk.specs.ShowLaws.{shows_is, shows_no, shows_page}
use Rattle.desk.proofs.show.Goals as goal

pub returns-then-out-lt-PAGE : goal.returns-then-out-lt-PAGE
returns-then-out-lt-PAGE c = shows_is c.args.file.now c.args.out.now (this (lt-ltb _ _ c.if-out-lt-PAGE.true)) refl refl

pub returns-in-Ok : goal.returns-in-Ok
returns-in-Ok c =
    let read = sym c.table_in.ensures ∙ ap outcome_of c.in-Ok.is in
    shows_page c.args.file.now c.args.out.now c.if-out-lt-PAGE.false c.in-Ok.table read c.put_page.ensures

pub returns-in-Err : goal.returns-in-Err
returns-in-Err c =
    let read = sym c.table_in.ensures ∙ ap outcome_of c.in-Err.is in
    shows_no c.args.file.now c.args.out.now c.if-out-lt-PAGE.false (number_of c.in-Err.refusal) read c.put_refusal.ensures
