-- The tests are the cases, in their order; head and rows make the file.
use Rattle.std.specs.Prelude.{◌*◌, ◌+◌, ◌-◌, ◌≡◌, ◌≤◌}
use Rattle.std.proofs.Common.{rules}
use Rattle.saving.specs.Prelude.{Bounds, Table, ap, arith, drop, fine, jobs, laid_part, le-ltb, length, length-drop, length-take-le, lt-ltb, not, not-false, over, past, refl, sound_by, sym, this, true, ◌∙◌}
use Rattle.laws.specs.Chains.{none}
use Rattle.arbiter.specs.ChangeLaws.{sound_by_lem}
use Rattle.arbiter.specs.Sound.{sound}
use Rattle.service.specs.File.{file, head_bytes, head_size, row_size, rows_bytes, rows_of}
use Rattle.service.specs.FileLaws.{file_length}
use Rattle.service.specs.declared.format.FileHead.{FileHead}
use Rattle.kept.specs.Sound.Tests.{table_sound}
use Rattle.kept.specs.Sound.Words.{SoundTable}
use Rattle.line.specs.LineInCode.{Lines}
use Rattle.saving.specs.SavingLaws.{file_put, line_fits, saved_is}
use Rattle.saving.proofs.save.Goals as goal
use Rattle.saving.proofs.save.Goals.{After-survey-surveyed, Else-not-surveyed}

-- what the survey tells is whether the table is sound
tells : (c : After-survey-surveyed) → sound c.args.t.now ≡ c.survey-surveyed.result.seen.sound
tells c =
    let t = c.args.t.now in
    sym (c.survey-surveyed.ensures.told ∙ ap (λ (b : Bounds). sound_by b t.rows) c.bounds.ensures ∙ sound_by_lem t)

-- past the first test
module _ (c : Else-not-surveyed) where
  abbrev table : Table
  table = c.args.t.now

  is-sound : sound table ≡ true
  is-sound = tells (goal.at.Else-not-surveyed c).After-survey-surveyed ∙ not-false _ c.if-not-surveyed.false

  in_range : SoundTable table
  in_range = table_sound table is-sound

  lines : Lines table.rows c.survey-surveyed.result.line
  lines =
      let s = c.survey-surveyed.ensures in
      (s.known (sym s.told ∙ not-false _ c.if-not-surveyed.false)).lines

  size : head_size + row_size * c.survey-surveyed.result.line.len ≡ length (file table)
  size = omega (arith, file_length table, lines.number)

  short : c.survey-surveyed.result.line.len ≤ jobs
  short =
      let long : length c.survey-surveyed.result.line.jobs ≡ jobs = search rules in
      line_fits table.rows lines long

pub returns-then-not-surveyed : goal.returns-then-not-surveyed
returns-then-not-surveyed c =
    saved_is c.args.t.now c.args.room.now
    (this (ap not (tells (goal.at.returns-then-not-surveyed c).After-survey-surveyed) ∙ c.if-not-surveyed.true)) refl refl

pub overflow_mul-size : goal.overflow_mul-size
overflow_mul-size c = omega (arith, short (goal.at.overflow_mul-size c).Else-not-surveyed)

pub overflow_add-size : goal.overflow_add-size
overflow_add-size c = omega (arith, short (goal.at.overflow_add-size c).Else-not-surveyed)

pub returns-then-room-size : goal.returns-then-room-size
returns-then-room-size c =
    let e = (goal.at.returns-then-room-size c).Else-not-surveyed in
    let room = e.args.room.now in
    saved_is (table e) room
    (past (ap not (is-sound e)) (this (lt-ltb (length room) (length (file (table e))) (omega (arith, size e))))) refl refl

pub head_of-requires : goal.head_of-requires
head_of-requires c =
    let e = (goal.at.head_of-requires c).Else-not-surveyed in
    ((in_range e).ranges.tokens.0, (in_range e).ranges.resources.0, (lines e).number)

pub put_rows-requires : goal.put_rows-requires
put_rows-requires c =
    let e = (goal.at.put_rows-requires c).Else-not-surveyed in
    let head = c.put_head in
    let room = c.put_head.new.room in
    (lines e, omega (arith, size e, file_length (table e), (lines e).number, length-take-le (length room - head_size) (drop head_size room) (omega (arith, length-drop head_size room)), length-drop head_size room, head.auto.room, c.if-room-size.false))

pub overflow_cast-result : goal.overflow_cast-result
overflow_cast-result c = omega (arith, short (goal.at.overflow_cast-result c).Else-not-surveyed)

pub returns : goal.returns
returns c =
    let e = (goal.at.returns c).Else-not-surveyed in
    let before = e.args.room.now in
    let middle = c.put_head.new.room in
    let fits = le-ltb (length before) (length (file (table e))) (omega (arith, size e)) in
    let wrote = laid_part middle c.put_rows.new.room (rows_bytes (rows_of (table e))) head_size (omega arith) c.put_rows.ensures in
    saved_is (table e) before (past (ap not (is-sound e)) (past fits none)) (ap fine (size e))
    (file_put (table e) before middle _ (omega arith) (c.put_head.ensures ∙ ap (λ (h : FileHead). over (head_bytes h) before) c.head_of.ensures) wrote)
