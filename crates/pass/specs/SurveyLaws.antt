-- What the line and the walk tell of a table is what a call sees of it.
use Rattle.std.specs.Prelude.{◌&&◌, ◌≡◌, Option, None, Some, is_some}
use Rattle.pass.specs.Prelude.{Bool, Bounds, Found, Line, Lines, List, Row, Place, Walks, ◌∙◌, all, all_each, and-false, ap, counters, denied, distinct, eqb-true, false, false≢true, holds, idle, idle_conditions, implying, le-zero, live, ltb-false, nth, ranges, refl, row_of, sound_by, sound_in, sym, token_by_lem, token_by, true, zeroed, ℕ}
use Rattle.pass.specs.Pass.{Surveyed}
use Rattle.pass.specs.PassLaws.{walk_sound, zero_sound}
use Rattle.pass.specs.declared.known.Survey.{Survey}

-- an idle row that is zero is the idle row
zeroed_idle : (r : Row) → zeroed r ≡ true → live r ≡ false → r ≡ idle
zeroed_idle r zeros rests =
    let each = nth (idle_conditions r) (rw rests at zeros) in
    let turn : r.turn.0 ≡ 0 = le-zero (ltb-false 0 r.turn.0 rests) in
    λ i. record {
      turn = record { 0 = turn i };
      declared = eqb-true r.declared 0 (each 0) i;
      held = eqb-true r.held 0 (each 1) i;
      asked = eqb-true r.asked 0 (each 2) i;
      since = eqb-true r.since 0 (each 3) i;
    }

module _ (b : Bounds) (rows : List Row) where
  -- the numbers are in range
  abbrev pub numbers : Bool
  numbers = holds (ranges b.tokens b.resources b.limit) && holds (counters b.time b.last.0)

  -- of a table that is not sound nothing more is said
  unsurveyed : sound_by b rows ≡ false → (j : ℕ) (v : Survey) → v.seen.sound ≡ false → Surveyed b rows j v
  unsurveyed e j v told = record { told = told ∙ sym e; known = λ sound. absurd (false≢true (sym e ∙ sound)) }

  -- one whose numbers are out of range is not sound, nor is one with an idle row that is not zero
  pub out_of_range : numbers ≡ false → (j : ℕ) (v : Survey) → v.seen.sound ≡ false → Surveyed b rows j v
  unfolding sound_by
  out_of_range out = unsurveyed (ap (λ (n : Bool). n && distinct rows && all (sound_in b rows) rows) out)

  pub not_zeroed : all zeroed rows ≡ false → (j : ℕ) (v : Survey) → v.seen.sound ≡ false → Surveyed b rows j v
  unfolding sound_by
  not_zeroed some =
      unsurveyed
      (ap (λ (x : Bool). numbers && distinct rows && x)
      (denied (all (sound_in b rows) rows) (all zeroed rows)
      (implying (all (sound_in b rows) rows) (all zeroed rows) (zero_sound b rows)) some)
      ∙ and-false (numbers && distinct rows))

  -- of any other a walk along the line tells the rest
  module _ (range : numbers ≡ true) (zero : all zeroed rows ≡ true) (j : ℕ) where
    -- whether the table is sound
    walk_tells : {w : Option Place} → Walks b rows j w → is_some w ≡ sound_by b rows
    unfolding sound_by
    walk_tells walk =
        walk.told
        ∙ walk_sound b rows zero
        ∙ sym (ap (λ (n : Bool). n && distinct rows && all (sound_in b rows) rows) range)

    -- one whose walk finds nothing is not sound
    pub strayed : Walks b rows j None → (v : Survey) → v.seen.sound ≡ false → Surveyed b rows j v
    strayed walk v = unsurveyed (sym (walk_tells walk)) j v

    -- the job's row, which is the idle one where it is idle
    place_row : (p : Place) → Found rows j p → p.row ≡ row_of rows j
    unfolding all
    place_row p found = go (live (row_of rows j)) refl
      where
        go : (a : Bool) → live (row_of rows j) ≡ a → p.row ≡ row_of rows j
        go true e = found.alive e
        go false e = found.rests e ∙ sym (zeroed_idle (row_of rows j) (all_each zeroed idle refl rows zero j) e)

    pub surveyed :
        (l : Line) → Lines rows l → (p : Place) → Walks b rows j (Some p) → (has : Bool) → has ≡ token_by b.tokens p.standing →
        Surveyed b rows j
        (record {
          seen = record {
            sound = true;
            resources = b.resources;
            time = b.time;
            last = b.last;
            row = p.row;
            token = has;
          };
          standing = p.standing;
          line = l;
        })
    surveyed l lines p walk has told =
        record {
          told = walk_tells walk;
          known = λ sound.
              record {
                sees = λ i. record {
                  sound = walk_tells walk i;
                  resources = b.resources;
                  time = b.time;
                  last = b.last;
                  row = place_row p walk.found i;
                  token = (told ∙ token_by_lem b.tokens rows p.standing (row_of rows j).turn.0 walk.found.stands) i;
                };
                stands = walk.found.stands;
                lines = lines;
              };
        }
