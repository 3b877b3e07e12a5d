-- The walk along the whole line tests what is asked of all live rows.
use Rattle.std.specs.Prelude.{◌&&◌, ◌<◌, ◌||◌, ◌∷◌, ◌≡◌}
use Rattle.pass.specs.Prelude.{Along, Bool, Bounds, InTurn, List, Row, Standing, [], ◌∙◌, ahead, all, all_each, along_stands, along_start, along_step, and-eq-true_iff, and-false, and_left, and_right, and-true, ap, arith, behind, below, below_reads, beside_by, blocked, distinct, each_all, false, false≢true, front, holds, idle, idle_conditions, implies, le-leb, leb, leb-true, length, line, lined_in_turn, live, lt-ltb, ltb, ltb-true, meets, member, member_empty, member_union, not, or-true, refl, row_beside, row_of, same, sound_in, sym, true, under, union, walks, zeroed, ℕ}
use Rattle.pass.specs.RiseLaws.{all_line, rising, rising_distinct}

-- all of a union is below R where all of each of the two sets is
below_union : (s t R : ℕ) → below (union s t) R ≡ (below s R && below t R)
below_union s t R = same (below (union s t) R) (below s R && below t R) there back
  where
    in_left : (a : ℕ) → member s a ≡ true → member (union s t) a ≡ true
    in_left a m = rw (member_union, m)

    in_right : (a : ℕ) → member t a ≡ true → member (union s t) a ≡ true
    in_right a m = member_union s t a ∙ ap (λ (b : Bool). member s a || b) m ∙ or-true (member s a)

    there : below (union s t) R ≡ true → (below s R && below t R) ≡ true
    there e =
        let each = (below_reads (union s t) R).holds.0 e in
        (and-eq-true_iff (below s R) (below t R)).1
        ((below_reads s R).holds.1 (λ a m. each a (in_left a m)), (below_reads t R).holds.1 (λ a m. each a (in_right a m)))

    back : (below s R && below t R) ≡ true → below (union s t) R ≡ true
    back e =
        let both = (and-eq-true_iff (below s R) (below t R)).0 e in
        (below_reads (union s t) R).holds.1
        (λ a m. go a (member s a) refl (sym (member_union s t a) ∙ m) both.0 both.1)
      where
        go :
            (a : ℕ) (b : Bool) → member s a ≡ b → (member s a || member t a) ≡ true → below s R ≡ true → below t R ≡ true → a < R
        go a true p m low high = (below_reads s R).holds.0 low a p
        go a false p m low high = (below_reads t R).holds.0 high a (rw p at m)

-- ---- Along the line

-- the row of a job is sound
abbrev sound : Bounds → List Row → ℕ → Bool
sound b rows j = sound_in b rows (row_of rows j)

-- the tests of the walk at one job, put together with those of the rest
regrouped :
    (low claimed up declared beside rest sounds : Bool) → (up ≡ true → low ≡ true) →
    (beside && ((up && (claimed && declared)) && (rest && sounds)))
    ≡ ((low && claimed) && (rest && (((up && declared) && beside) && sounds)))
regrouped low claimed up declared false rest sounds more =
    rw (and-false (up && declared), and-false rest, and-false (low && claimed))
regrouped low claimed false declared true rest sounds more = rw (and-false rest, and-false (low && claimed))
regrouped low false true declared true rest sounds more = rw (more refl)
regrouped low true true true true rest sounds more = rw (more refl)
regrouped low true true false true rest sounds more = rw (more refl) (sym (and-false rest))

-- at the next job of the line
module _ (b : Bounds) (rows : List Row) (s : Standing) (m j : ℕ) (l : List ℕ) (along : Along rows s m (j ∷ l))
    (sorted : InTurn rows (j ∷ l)) where
  abbrev r : Row
  r = row_of rows j

  -- no turn so far is above the last one given, and every resource is below R
  abbrev low : Bool
  low = leb m b.last.0 && below s.claims b.resources

  -- so for this row's turn and its resources
  abbrev own : Bool
  own = leb r.turn.0 b.last.0 && below r.declared b.resources

  -- the row is sound beside what stands before it
  abbrev beside : Bool
  beside = holds (beside_by b.tokens b.time r s.ahead (meets s.claims))

  -- turns rise along the rest
  abbrev rest : Bool
  rest = rising rows r.turn.0 l

  -- what stands before the row is its standing, so that is all that is asked of it
  here : m < r.turn.0 → sound_in b rows r ≡ (own && beside)
  here above =
      let stands = along_stands rows s m j l above sorted along in
      row_beside b.tokens b.resources b.time b.last.0 r (ahead rows r.turn.0) (blocked rows r.turn.0)
      (lt-ltb 0 r.turn.0 (omega arith))
      ∙ (λ i. own && holds (beside_by b.tokens b.time r (sym stands.before i) (λ x. sym (stands.forbids x) i)))

  -- what is tested from here on, if the turn rises (t)
  next_tests :
      (t : Bool) → ltb m r.turn.0 ≡ t →
      (m < r.turn.0 →
      walks b rows (behind s r) r.turn.0 l
      ≡ ((leb r.turn.0 b.last.0 && below (union s.claims r.declared) b.resources) && (rest && all (sound b rows) l))) →
      ((t && beside) && walks b rows (behind s r) r.turn.0 l) ≡ (low && ((t && rest) && (sound_in b rows r && all (sound b rows) l)))
  next_tests true e ih =
      let above : m < r.turn.0 = ltb-true m r.turn.0 e in
      ap (λ (w : Bool). beside && w)
      (ih above
      ∙ ap (λ (c : Bool). (leb r.turn.0 b.last.0 && c) && (rest && all (sound b rows) l))
      (below_union s.claims r.declared b.resources))
      ∙ regrouped (leb m b.last.0) (below s.claims b.resources) (leb r.turn.0 b.last.0)
      (below r.declared b.resources) beside rest (all (sound b rows) l)
      (λ p. le-leb m b.last.0 (omega (arith, leb-true r.turn.0 b.last.0 p)))
      ∙ ap (λ (x : Bool). low && (rest && (x && all (sound b rows) l))) (sym (here above))
  next_tests false e ih = sym (and-false low)

-- what is tested along the rest of the line: the last turn, the resources, that turns rise, and that each row is sound
pub walk_tests :
    (b : Bounds) (rows : List Row) (s : Standing) (m : ℕ) (l : List ℕ) → Along rows s m l → InTurn rows l →
    walks b rows s m l
    ≡ ((leb m b.last.0 && below s.claims b.resources) && (rising rows m l && all (sound b rows) l))
unfolding walks rising all InTurn
walk_tests b rows s m [] along sorted = sym (and-true (leb m b.last.0 && below s.claims b.resources))
walk_tests b rows s m (j ∷ l) along sorted =
    next_tests b rows s m j l along sorted (ltb m (row_of rows j).turn.0) refl
    (λ above. walk_tests b rows (behind s (row_of rows j)) (row_of rows j).turn.0 l (along_step rows s m j l above sorted along) sorted.1)

-- an idle row that is zero is sound, so a row is sound if it is where it is live
live_enough : (b : Bounds) (rows : List Row) (r : Row) → zeroed r ≡ true → implies (live r) (sound_in b rows r) ≡ sound_in b rows r
live_enough b rows r none = go (live r) refl
  where
    go : (a : Bool) → live r ≡ a → implies a (sound_in b rows r) ≡ sound_in b rows r
    go true e = refl
    go false e = sym (rw e (rw e at none))

all_enough :
    (b : Bounds) (rows l : List Row) → all zeroed l ≡ true →
    all (λ r. implies (live r) (sound_in b rows r)) l ≡ all (sound_in b rows) l
unfolding all
all_enough b rows [] none = refl
all_enough b rows (r ∷ l) none = λ i.
    live_enough b rows r (and_left (zeroed r) (all zeroed l) none) i
    && all_enough b rows l (and_right (zeroed r) (all zeroed l) none) i

-- the empty set is below R
below_empty : (R : ℕ) → below 0 R ≡ true
below_empty R = (below_reads 0 R).holds.1 (λ a m. absurd (false≢true (sym (member_empty a) ∙ m)))

-- the walk along the whole line tests that turns are distinct and that every row is sound
pub walk_sound :
    (b : Bounds) (rows : List Row) → all zeroed rows ≡ true →
    walks b rows front 0 (line rows) ≡ (distinct rows && all (sound_in b rows) rows)
walk_sound b rows none =
    walk_tests b rows front 0 (line rows) (along_start rows) (lined_in_turn rows (under (length rows)))
    ∙ (λ i.
    (le-leb 0 b.last.0 (omega arith) i && below_empty b.resources i)
    && (rising_distinct rows i && (all_line (sound_in b rows) rows ∙ all_enough b rows rows none) i))

-- an idle row that is not zero makes the rows unsound
pub zero_sound : (b : Bounds) (rows : List Row) → all (sound_in b rows) rows ≡ true → all zeroed rows ≡ true
unfolding all
zero_sound b rows sound =
    each_all zeroed idle rows (λ k. go (row_of rows k) (live (row_of rows k)) refl (all_each (sound_in b rows) idle refl rows sound k))
  where
    go : (r : Row) (a : Bool) → live r ≡ a → sound_in b rows r ≡ true → implies (not a) (holds (idle_conditions r)) ≡ true
    go r true e h = refl
    go r false e h = rw e at h
