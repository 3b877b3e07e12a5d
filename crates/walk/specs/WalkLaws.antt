-- Laws of the walk: at the beginning, at each job, at the end.
use Rattle.std.specs.Prelude.{None, Option, Some, is_some, ◌&&◌, ◌+◌, ◌<◌, ◌||◌, ◌∷◌, ◌≡◌, ◌≢◌, ◌≤◌, ◌⊎◌}
use Rattle.walk.specs.Prelude.{cond, and_left, eqb-true, eqb-false, Bool, Bounds, InTurn, Line, Lines, List, Row, Standing, Stands, [], ◌∙◌, add-one, along_stands, along_start, along_step, and-false, and-true, any, any_count, ap, arith, behind, below, beside_by, bit, count_keep, drop, drop-cons, drop_of_length-le, eqb, false, false≢true, front, get_or, get_or-take, holds, idle, inl, inr, le-zero, length, length_lined_le, line, line_below, lined_in_turn, listed_once, live, lt-ltb, ltb, ltb-false, ltb-true, meets, ne_eqb, nobody_before, not, not-false, not_ltb, not-true, refl, row_of, subst, suc, sym, true, true≢false, under, ℕ, ⊎_elim}
use Rattle.walk.specs.Walk.{Coming, Found, Walking, Walks, walks}
use Rattle.walk.specs.declared.Place.{Place}

-- ---- At the beginning

-- a live job is in line, and no other
in_line : (rows : List Row) (job : ℕ) → any (eqb job) (line rows) ≡ live (row_of rows job)
in_line rows job =
    any_count (eqb job) (line rows)
    ∙ ap (ltb 0)
    (sym (count_keep (λ _. true) (eqb job) (line rows)) ∙ listed_once (λ _. true) rows job ∙ ap bit (and-true (live (row_of rows job))))
    ∙ some (live (row_of rows job))
  where
    some : (b : Bool) → ltb 0 (bit b) ≡ b
    some true = refl
    some false = refl

-- the whole line is left
pub walking_start :
    (b : Bounds) (rows : List Row) (job : ℕ) → Walking b rows job front 0 (record { standing = front; row = idle }) (line rows)
walking_start b rows job =
    record {
      same = refl;
      along = along_start rows;
      sorted = lined_in_turn rows (under (length rows));
      seeks = inr (record { front = refl; idle = refl; comes = in_line rows job });
    }

-- ---- At each job

-- a walk whose test fails finds nothing
pub nowhere : (b : Bounds) (rows : List Row) (job : ℕ) → walks b rows front 0 (line rows) ≡ false → Walks b rows job None
nowhere b rows job fails = record { told = sym fails; found = tt }

module _ {b : Bounds} {rows : List Row} {job : ℕ} {s : Standing} {m : ℕ} {place : Place} (k : ℕ) (left : List ℕ)
    (now : Walking b rows job s m place (k ∷ left)) where
  abbrev r : Row
  r = row_of rows k

  -- the turn rises, and the row is sound beside what stands before it
  abbrev rises : Bool
  rises = ltb m r.turn.0

  abbrev beside : Bool
  beside = holds (beside_by b.tokens b.time r s.ahead (meets s.claims))

  -- where one of these tests fails, the whole test does
  pub walking_fails : (rises && beside) ≡ false → walks b rows front 0 (line rows) ≡ false
  unfolding walks
  walking_fails e = sym now.same ∙ ap (λ (t : Bool). t && walks b rows (behind s r) r.turn.0 left) e

  -- where both pass, the rest is left
  module _ (both : (rises && beside) ≡ true) where
    higher : m < r.turn.0
    higher = ltb-true m r.turn.0 (and_left rises beside both)

    onward :
        (place' : Place) → Found rows job place' ⊎ Coming rows job left place' →
        Walking b rows job (behind s r) r.turn.0 place' left
    unfolding walks InTurn
    onward place' seeks =
        record {
          same = sym (ap (λ (t : Bool). t && walks b rows (behind s r) r.turn.0 left) both) ∙ now.same;
          along = along_step rows s m k left higher now.sorted now.along;
          sorted = now.sorted.1;
          seeks = seeks;
        }

    -- a job that is not the one looked for leaves that found, or still to come
    pub walking_past : k ≢ job → Walking b rows job (behind s r) r.turn.0 place left
    unfolding any
    walking_past other = onward place (⊎_elim inl (λ c. inr (still c)) now.seeks)
      where
        still : Coming rows job (k ∷ left) place → Coming rows job left place
        still c =
            record {
              front = c.front;
              idle = c.idle;
              comes = sym (ap (λ (t : Bool). t || any (eqb job) left) (ne_eqb job k (λ e. other (sym e)))) ∙ c.comes;
            }

    -- the one looked for is found
    pub walking_finds : k ≡ job → Walking b rows job (behind s r) r.turn.0 (record { standing = s; row = r }) left
    walking_finds same =
        onward (record { standing = s; row = r })
        (inl
        (record {
          stands =
              subst (λ (j : ℕ). Stands rows (row_of rows j).turn.0 s) same
              (along_stands rows s m k left higher now.sorted now.along);
          alive = λ _. ap (row_of rows) same;
          rests = λ e.
              absurd
              (true≢false (sym (lt-ltb 0 r.turn.0 (omega (arith, higher))) ∙ ap (λ (j : ℕ). live (row_of rows j)) same ∙ e));
        }))

    -- either way
    pub walking_on :
        Walking b rows job (behind s r) r.turn.0 (cond (eqb k job) (record { standing = s; row = r }) place) left
    walking_on = go (eqb k job) refl
      where
        go :
            (same : Bool) → eqb k job ≡ same →
            Walking b rows job (behind s r) r.turn.0 (cond same (record { standing = s; row = r }) place) left
        go true e = walking_finds (eqb-true k job e)
        go false e = walking_past (eqb-false k job e)

-- ---- At each place of a line in code

-- a walk whose test fails says nothing more
untrue :
    (b : Bounds) (rows : List Row) (job : ℕ) (w : Option Place) → walks b rows front 0 (line rows) ≡ false → is_some w ≡ false →
    Walks b rows job w
untrue b rows job None fails _ = nowhere b rows job fails
untrue b rows job (Some place) fails e = absurd (true≢false e)

module _ (rows : List Row) (l : Line) (lines : Lines rows l) where
  -- no line is longer than the rows
  pub line_short : l.len ≤ length rows
  line_short = omega (arith, lines.number, length_lined_le rows (length rows))

  module _ (p : ℕ) (inside : p < l.len) where
    -- place by place it is the line of the rows
    pub line_entry : get_or (line rows) p 0 ≡ get_or l.jobs p 0
    line_entry = sym (ap (λ (xs : List ℕ). get_or xs p 0) lines.list) ∙ get_or-take l.len l.jobs p 0 inside

    -- its entries are jobs
    pub line_job : get_or l.jobs p 0 < length rows
    line_job = rw (← line_entry) (line_below rows p (omega (arith, lines.number)))

    -- what is left begins with the entry there
    line_next : drop p (line rows) ≡ get_or l.jobs p 0 ∷ drop (p + 1) (line rows)
    line_next =
        rw (add-one p)
        (drop-cons (line rows) p 0 (omega (arith, lines.number)) ∙ ap (λ (j : ℕ). j ∷ drop (suc p) (line rows)) line_entry)

    module _ {b : Bounds} {job : ℕ} {s : Standing} {m : ℕ} {place : Place}
        (now : Walking b rows job s m place (drop p (line rows))) where
      -- the entry there, and what is left after it
      abbrev k : ℕ
      k = get_or l.jobs p 0

      abbrev left : List ℕ
      left = drop (p + 1) (line rows)

      -- the two tests of its row
      abbrev above : Bool
      above = ltb m (row_of rows k).turn.0

      abbrev sound : Bool
      sound = holds (beside_by b.tokens b.time (row_of rows k) s.ahead (meets s.claims))

      -- the walk goes on at the entry
      opened : Walking b rows job s m place (k ∷ left)
      opened = subst (Walking b rows job s m place) line_next now

      -- where one of these tests fails, nothing is found; t is what code tested, and denied
      pub walking_falls : (t : Bool) → t ≡ above → not t ≡ true → (w : Option Place) → is_some w ≡ false → Walks b rows job w
      walking_falls t test fails w =
          untrue b rows job w (walking_fails k left opened (ap (λ (u : Bool). u && sound) (sym test ∙ not-true t fails)))

      pub walking_fails_at : (t : Bool) → t ≡ sound → not t ≡ true → (w : Option Place) → is_some w ≡ false → Walks b rows job w
      walking_fails_at t test fails w =
          untrue b rows job w
          (walking_fails k left opened (ap (λ (u : Bool). above && u) (sym test ∙ not-true t fails) ∙ and-false above))

      -- where both pass, what was found stays, or the job is found; t and u are what code tested
      module _ (t u : Bool) (rises : t ≡ above) (did : not t ≡ false) (beside : u ≡ sound) (was : not u ≡ false)
          (after : Standing) (behinds : after ≡ behind s (row_of rows k)) (place' : Place) where
        both : (above && sound) ≡ true
        both = λ i. (sym rises ∙ not-false t did) i && (sym beside ∙ not-false u was) i

        pub walking_past_at : k ≢ job → place' ≡ place → Walking b rows job after (row_of rows k).turn.0 place' left
        walking_past_at other same = rw (behinds, same) (walking_past k left opened both other)

        pub walking_finds_at :
            k ≡ job → place' ≡ record { standing = s; row = row_of rows k } →
            Walking b rows job after (row_of rows k).turn.0 place' left
        walking_finds_at this same = rw (behinds, same) (walking_finds k left opened both this)

-- ---- At the end

-- a job that has not come is idle
never_came : (rows : List Row) (job : ℕ) (place : Place) → Coming rows job [] place → Found rows job place
unfolding any
never_came rows job place c =
    let none : (row_of rows job).turn.0 ≡ 0 = le-zero (ltb-false 0 (row_of rows job).turn.0 (sym c.comes)) in
    record {
      stands = rw (none, c.front) (nobody_before rows);
      alive = λ e. absurd (false≢true (c.comes ∙ e));
      rests = λ _. c.idle;
    }

-- the result of the test is returned, and the job was found, or is idle
pub walking_end :
    {b : Bounds} {rows : List Row} {job : ℕ} {s : Standing} {m : ℕ} {place : Place} → Walking b rows job s m place [] →
    (test : Bool) → test ≡ (not (ltb b.last.0 m) && below s.claims b.resources) → Walks b rows job (cond test (Some place) None)
unfolding walks
walking_end {b} {rows} {job} {s} {m} {place} end test told =
    go test (told ∙ ap (λ (t : Bool). t && below s.claims b.resources) (not_ltb b.last.0 m) ∙ end.same)
  where
    go : (t : Bool) → t ≡ walks b rows front 0 (line rows) → Walks b rows job (cond t (Some place) None)
    go true e = record { told = e; found = ⊎_elim (λ f. f) (never_came rows job place) end.seeks }
    go false e = record { told = e; found = tt }

-- so too where no place of the line is left
pub walking_end_at :
    {b : Bounds} {rows : List Row} {job : ℕ} {s : Standing} {m : ℕ} {place : Place} (p : ℕ) → length (line rows) ≤ p →
    Walking b rows job s m place (drop p (line rows)) → (test : Bool) →
    test ≡ (not (ltb b.last.0 m) && below s.claims b.resources) → Walks b rows job (cond test (Some place) None)
walking_end_at {b} {rows} {job} {s} {m} {place} p past now test told =
    walking_end (subst (Walking b rows job s m place) (drop_of_length-le (line rows) {i = p} past) now) test told
