-- What is kept is what the rows say: a job's standing and its place by the line, and the line when a job goes or comes.
use Rattle.std.specs.Prelude.{◌++◌, ◌+◌, ◌<◌, ◌∷◌, ◌≡◌, ◌≢◌, ◌≤◌}
use Rattle.std.specs.List.{remove}
use Rattle.upkeep.specs.Prelude.{Bool, Distinct, List, Onward, Row, Standing, Stands, Turn, Walk, [], ◌∙◌, ahead, ahead_set, ap, arith, at_set, behind, bit, cond, earlier, ended, eq-eqb, eqb, front, get_or, get_or-set_other, get_or-set_same, idle, length, length-set, length_settled, line, line_besides, line_places, line_turns, live, live_within, lt-ltb, ne_eqb, not_earlier, one_place, opening_of, refl, row_settled, row_of, set, settled, settled_rows, stayed, subst, suc, swept_keeps, sym, turn_settled, union, walk_alive, walk_end, walk_stands, walk_start, walk_step, zero, ℕ, ℕ_discrete}
use Rattle.upkeep.specs.Removing.{removed_besides, removed_last}
use Rattle.upkeep.specs.Upkeep.{Declares, standing_in}

-- with a row of the same turn in its place, the line is the same
pub line_same :
    (rows : List Row) (k : ℕ) (x : Row) → k < length rows → x.turn.0 ≡ (row_of rows k).turn.0 → line (set rows k x) ≡ line rows
line_same rows k x within same =
    line_turns (set rows k x) rows (at_set (λ j r. r.turn.0 ≡ (row_of rows j).turn.0) rows k x within same (λ j other. refl))
    (length-set rows k x)

-- ---- Where a job stands, and who goes

module _ (rows : List Row) (apart : Distinct rows) (k : ℕ) (alive : 0 < (row_of rows k).turn.0) where
  abbrev own : ℕ
  own = ahead rows (row_of rows k).turn.0

  -- if another job is next in line, one more stands before k
  further : {s : Standing} {j : ℕ} {left : List ℕ} → Walk rows s (j ∷ left) → j ≢ k → s.ahead ≤ own → s.ahead + 1 ≤ own
  further {s} {j} w other up =
      let here = (walk_stands w).before in
      let differs : ¬ (s.ahead ≡ own) = λ same. other (one_place rows apart j k (walk_alive w) alive (sym here ∙ same)) in
      omega arith

  -- going along the line, its standing is found
  standing_found :
      (column : List ℕ) → Declares rows column → (s : Standing) (left : List ℕ) → Walk rows s left → s.ahead ≤ own →
      Stands rows (row_of rows k).turn.0 (standing_in column k s left)
  unfolding standing_in
  standing_found column declares s [] w up = absurd (omega (arith, walk_end w k alive))
  standing_found column declares s (j ∷ left) w up =
      go (ℕ_discrete j k) (λ more. standing_found column declares (behind s (row_of rows j)) left (walk_step w) more)
    where
      next : Standing
      next = record { ahead = s.ahead + 1; claims = union s.claims (get_or column j 0) }

      same : behind s (row_of rows j) ≡ next
      same = λ i. record { ahead = s.ahead + 1; claims = union s.claims (sym (declares j (walk_alive w)) i) }

      go :
          Dec (j ≡ k) →
          (s.ahead + 1 ≤ own → Stands rows (row_of rows k).turn.0 (standing_in column k (behind s (row_of rows j)) left)) →
          Stands rows (row_of rows k).turn.0 (cond (eqb j k) s (standing_in column k next left))
      go (yes e) ih = rw (eq-eqb j k e) (subst (λ (i : ℕ). Stands rows (row_of rows i).turn.0 s) e (walk_stands w))
      go (no e) ih =
          rw (ne_eqb j k e)
          (subst (λ (x : Standing). Stands rows (row_of rows k).turn.0 (standing_in column k x left)) same (ih (further w e up)))

  -- so a request's standing by what is kept is its standing
  pub line_standing :
      (column : List ℕ) → Declares rows column → Stands rows (row_of rows k).turn.0 (standing_in column k front (line rows))
  line_standing column declares = standing_found column declares front (line rows) (walk_start rows apart) (omega arith)

  -- its place in the rest of the line is how many more stand before it
  place_found :
      (s : Standing) (left : List ℕ) → Walk rows s left → s.ahead ≤ own → (d : ℕ) → own ≡ s.ahead + d →
      (d < length left) × (get_or left d 0 ≡ k)
  place_found s [] w up d e = absurd (omega (arith, walk_end w k alive))
  place_found s (j ∷ left) w up d e =
      go (ℕ_discrete j k) d e (λ more. place_found (behind s (row_of rows j)) left (walk_step w) more)
    where
      go :
          Dec (j ≡ k) → (d : ℕ) → own ≡ s.ahead + d →
          (s.ahead + 1 ≤ own → (d : ℕ) → own ≡ s.ahead + 1 + d → (d < length left) × (get_or left d 0 ≡ k)) →
          (d < length (j ∷ left)) × (get_or (j ∷ left) d 0 ≡ k)
      go (yes same) zero e ih = (omega arith, same)
      go (yes same) (suc d) e ih =
          absurd (omega (arith, (walk_stands w).before, ap (λ (i : ℕ). ahead rows (row_of rows i).turn.0) same))
      go (no differs) zero e ih = absurd (omega (arith, further w differs up))
      go (no differs) (suc d) e ih =
          let later = ih (further w differs up) d (omega arith) in
          (omega (arith, later.0), later.1)

  -- a job's place in line is how many stand before it
  pub line_place : (own < length (line rows)) × (get_or (line rows) own 0 ≡ k)
  line_place = place_found front (line rows) (walk_start rows apart) (omega arith) own (omega arith)

  -- and it stands nowhere else
  line_once : (i : ℕ) → i < length (line rows) → i ≢ own → get_or (line rows) i 0 ≢ k
  line_once i within differs same =
      differs (sym (line_places rows apart i within).1 ∙ ap (λ (j : ℕ). ahead rows (row_of rows j).turn.0) same)

  -- without its place, the line is that of the rows with its own idle
  pub line_without : remove (line rows) own ≡ line (set rows k idle)
  line_without =
      removed_besides (line rows) own k line_place.0 line_place.1 line_once
      ∙ sym (line_besides rows k (live_within rows k alive))

  -- that is the line after its request has ended, for the sweep moves no turn; if it goes on, the line stays
  pub line_settled :
      (T : ℕ) (x : Row) → Onward (row_of rows k) x → line (settled_rows T rows k x) ≡ cond (live x) (line rows) (remove (line rows) own)
  line_settled T x onward =
      line_turns (settled_rows T rows k x) (set rows k x) (λ j. ap (λ (t : Turn). t.0) (turn_settled T (set rows k x) j))
      (length_settled T (set rows k x))
      ∙ go onward
    where
      go : Onward (row_of rows k) x → line (set rows k x) ≡ cond (live x) (line rows) (remove (line rows) own)
      go (ended e) =
          ap (λ (r : Row). line (set rows k r)) e ∙ sym line_without
          ∙ sym (ap (λ (r : Row). cond (live r) (line rows) (remove (line rows) own)) e)
      go (stayed turn _ _) =
          line_same rows k x (live_within rows k alive) turn
          ∙ sym (ap (λ (b : Bool). cond b (line rows) (remove (line rows) own)) (lt-ltb 0 x.turn.0 (omega arith)))

-- ---- Who comes

-- a job whose turn is higher than all others comes last in line
pub line_joined :
    (rows : List Row) (k : ℕ) (x : Row) → k < length rows → Distinct (set rows k x) → set (set rows k x) k idle ≡ rows →
    0 < x.turn.0 → ahead rows x.turn.0 ≡ length (line rows) → line (set rows k x) ≡ line rows ++ k ∷ []
line_joined rows k x within apart idles alive all =
    let rows' = set rows k x in
    let is = get_or-set_same rows k x idle within in
    let turn : (row_of rows' k).turn.0 ≡ x.turn.0 = ap (λ (r : Row). r.turn.0) is in
    let own = ahead rows' (row_of rows' k).turn.0 in
    let found = line_place rows' apart k (omega arith) in
    let others : remove (line rows') own ≡ line rows = line_without rows' apart k (omega arith) ∙ ap line idles in
    let was : row_of rows k ≡ idle =
    ap (λ (l : List Row). row_of l k) (sym idles) ∙ get_or-set_same rows' k idle idle (omega (arith, length-set rows k x)) in
    let place : own ≡ length (line rows) =
    omega (
      arith,
      ahead_set rows k x within x.turn.0,
      ap (λ (r : Row). bit (earlier x.turn.0 r)) was,
      all,
      ap (ahead rows') turn,
      ap bit (not_earlier x.turn.0 x (omega arith)),
      found.0,
    ) in
    removed_last (line rows') (line rows) k (omega (arith, found.0)) (ap (λ (p : ℕ). remove (line rows') p) (sym place) ∙ others)
    (ap (λ (p : ℕ). get_or (line rows') p 0) (sym place) ∙ found.1)

-- ---- The declared sets

-- a row that is written, and its set with it
pub declares_set :
    (rows : List Row) (column : List ℕ) (k : ℕ) (x : Row) → k < length rows → k < length column → Declares rows column →
    Declares (set rows k x) (set column k x.declared)
declares_set rows column k x within fits declares =
    at_set (λ j r. 0 < r.turn.0 → get_or (set column k x.declared) j 0 ≡ r.declared) rows k x within
    (λ alive. get_or-set_same column k x.declared 0 fits)
    (λ j other alive. get_or-set_other column k j x.declared 0 other ∙ declares j alive)

-- the sweep changes none
pub declares_settled : (T : ℕ) (rows : List Row) (column : List ℕ) → Declares rows column → Declares (settled T rows) column
declares_settled T rows column declares j alive =
    let kept : opening_of (row_of (settled T rows) j) ≡ opening_of (row_of rows j) =
    ap opening_of (row_settled T rows j) ∙ swept_keeps T rows (row_of rows j) in
    declares j (omega (arith, ap (λ (r : Row). r.turn.0) kept)) ∙ sym (ap (λ (r : Row). r.declared) kept)
