-- Laws of rows put into a table one by one.
use Rattle.std.specs.Prelude.{◌&&◌, ◌*◌, ◌+◌, ◌-◌, ◌<◌, ◌||◌, ◌∷◌, ◌≡◌}
use Rattle.service.specs.Prelude.{Bool, List, Row, [], ◌∙◌, all, and-false, and-true, any, ap, arith, drop, drop-drop, eq-eqb, eqb, false, get_or-set_other, get_or-set_same, idle, idle_rows, jobs, length, length-replicate, length-set, lt-ltb, ltb, ltb-true, ne_eqb, not, refl, replicate, set, suc, sym, true, zero, ℕ, ℕ_discrete}
use Rattle.service.specs.File.{ascend, once, row_in, row_said, row_size, rows_in}
use Rattle.service.specs.FieldsIn.{row_fits}
use Rattle.service.specs.Placing.{JobsBelow, fits, free}
use Rattle.service.specs.declared.format.FileRow.{FileRow}

-- ---- The rows that bytes say

-- the rows from place i on: the one there, and those after it
pub rows_left :
    (n i : ℕ) (bs : List ℕ) → i < n →
    rows_in (n - i) (drop (row_size * i) bs)
    ≡ row_in (drop (row_size * i) bs) ∷ rows_in (n - (i + 1)) (drop (row_size * (i + 1)) bs)
unfolding rows_in
rows_left n i bs h =
    let more : n - i ≡ suc (n - (i + 1)) = omega arith in
    let next : row_size * i + row_size ≡ row_size * (i + 1) = omega arith in
    let here = row_in (drop (row_size * i) bs) in
    ap (λ (k : ℕ). rows_in k (drop (row_size * i) bs)) more
    ∙ ap (λ (l : List ℕ). here ∷ rows_in (n - (i + 1)) l) (drop-drop row_size (row_size * i) bs)
    ∙ ap (λ (k : ℕ). here ∷ rows_in (n - (i + 1)) (drop k bs)) next

-- each is of a job that there is: its field is no wider
pub rows_jobs : (n : ℕ) (bs : List ℕ) → JobsBelow (rows_in n bs)
unfolding rows_in
rows_jobs zero bs = tt
rows_jobs (suc n) bs = ((row_fits bs).0, rows_jobs n (drop row_size bs))

-- ---- Tested one by one, and all together

module _ (rows : List Row) (f : FileRow) (within : f.job < length rows) (alive : 0 < f.turn) where
  -- with a row put in, a job is free if it was and is not that row's
  free_set : (g : FileRow) → free (set rows f.job (row_said f)) g ≡ (not (eqb f.job g.job) && free rows g)
  free_set g = go (ℕ_discrete g.job f.job)
    where
      go :
          Dec (g.job ≡ f.job) → free (set rows f.job (row_said f)) g ≡ (not (eqb f.job g.job) && free rows g)
      go (yes e) =
          rw (e, get_or-set_same rows f.job (row_said f) idle within, lt-ltb 0 f.turn alive, eq-eqb f.job f.job refl)
      go (no e) =
          rw (get_or-set_other rows f.job g.job (row_said f) idle e, ne_eqb f.job g.job (λ same. e (sym same)))

  -- so all are free that were, if that job is not among them
  all_free_set :
      (gs : List FileRow) →
      all (free (set rows f.job (row_said f))) gs ≡ (not (any (λ g. eqb f.job g.job) gs) && all (free rows) gs)
  unfolding all any
  all_free_set [] = refl
  all_free_set (g ∷ gs) =
      rw (free_set g, all_free_set gs)
      (each (eqb f.job g.job) (free rows g) (any (λ h. eqb f.job h.job) gs) (all (free rows) gs))
    where
      each : (a b c d : Bool) → ((not a && b) && (not c && d)) ≡ (not (a || c) && (b && d))
      each true b c d = refl
      each false b true d = and-false b
      each false b false d = refl

-- the same tests in another order
regroup : (a b c d e : Bool) → (a && (b && (c && (d && e)))) ≡ (b && ((d && c) && (a && e)))
regroup true b true true e = refl
regroup true b true false e = refl
regroup true b false true e = refl
regroup true b false false e = refl
regroup false b c d e = rw (and-false (d && c)) (sym (and-false b))

-- rows fit where their turns rise, no job comes twice, and none was there before
fits_each :
    (n : ℕ) (rows : List Row) (fs : List FileRow) → length rows ≡ jobs → JobsBelow fs →
    fits n rows fs ≡ (ascend n fs && (once fs && all (free rows) fs))
unfolding fits ascend once all
fits_each n rows [] long below = refl
fits_each n rows (f ∷ fs) long below =
    go (ltb n f.turn) refl (fits_each f.turn next fs (length-set rows f.job (row_said f) ∙ long) below.1)
  where
    next : List Row
    next = set rows f.job (row_said f)

    twice : Bool
    twice = any (λ g. eqb f.job g.job) fs

    go :
        (b : Bool) → ltb n f.turn ≡ b → fits f.turn next fs ≡ (ascend f.turn fs && (once fs && all (free next) fs)) →
        (b && free rows f && fits f.turn next fs)
        ≡ ((b && ascend f.turn fs) && ((not twice && once fs) && (free rows f && all (free rows) fs)))
    go true e ih =
        let alive : 0 < f.turn = omega (arith, ltb-true n f.turn e) in
        rw (ih, all_free_set rows f (omega (arith, long, below.0)) alive fs)
        (regroup (free rows f) (ascend f.turn fs) (once fs) (not twice) (all (free rows) fs))
    go false e ih = refl

-- where nobody has a request, every job is free
all_free : (fs : List FileRow) → all (free (replicate jobs idle)) fs ≡ true
unfolding all
all_free [] = refl
all_free (f ∷ fs) = rw (idle_rows jobs f.job) (all_free fs)

-- so rows fit into an empty table where they are in order of turn, none has turn 0, and no job has two
pub fits_all : (fs : List FileRow) → JobsBelow fs → fits 0 (replicate jobs idle) fs ≡ (ascend 0 fs && once fs)
fits_all fs below =
    fits_each 0 (replicate jobs idle) fs (length-replicate jobs idle) below
    ∙ ap (λ (b : Bool). ascend 0 fs && (once fs && b)) (all_free fs)
    ∙ ap (λ (b : Bool). ascend 0 fs && b) (and-true (once fs))
