-- The sweep on the way along the line: what has been made of the rows.
use Rattle.std.specs.Prelude.{◌+◌, ◌<◌, ◌∷◌, ◌≡◌, ◌≢◌, ◌≤◌, ◌⊎◌}
use Rattle.sweep.specs.Prelude.{Bool, Each, List, Listed, Row, Standing, Turn, [], ◌∙◌, add-one, add-zero, ahead, ap, arith, behind, bit, cond, drop, drop-cons, drop_of_length-le, each_head, each_tail, either, ext_get_or, false, front, get_or, get_or-set_other, get_or-set_same, goes_on, idle, inl, inr, keep, le-ltb, length, length-set, length_settled, line, live, live_within, lt-ltb, ltb, ltb-false, ltb-true, refl, row_of, set, set-get_or, settled, subst, sym, true, turn_settled, wakes_by, woke, woken, ℕ, ℕ_discrete, ⊎_elim}
use Rattle.sweep.specs.Walking.{Walk, live_in}
use Rattle.sweep.specs.WalkingLaws.{one_place, walk_alive, walk_end, walk_later, walk_stands, walk_start, walk_step}
use Rattle.sweep.specs.Written.{Written}
use Rattle.sweep.specs.Leaving.{keep_within}
use Rattle.sweep.specs.Passing.{noted, passed_by}
use Rattle.sweep.specs.PassingLaws.{passed_gone, passed_stays, passed_wakes}
use Rattle.sweep.specs.declared.settling.Passed.{Passed}
use Rattle.sweep.specs.SweptLaws.{after_far, after_idle, after_near, line_now, woken_line}
use Rattle.sweep.proofs.Writing.{Writing, writing_done, writing_passed, writing_start, writing_written}

-- the row of job j where c requests have been passed: that of the sweep if it is one of them, and else as it was written
abbrev row_behind : ℕ → List Row → ℕ → ℕ → Row
row_behind T w c j = cond (ltb (ahead w (row_of w j).turn.0) c) (row_of (settled T w) j) (row_of w j)

-- w are the rows as written, and of the line `left` is still to come, after s: the rows of those before are as they will be,
-- and the others as they were written
pub record Midway (T : ℕ) (w : List Row) (left : List ℕ) (s : Standing) (next : List Row) : Type 0 where
  pub walk : Walk w s (keep (live_in w) left)
  pub long : length next ≡ length w
  pub row : (j : ℕ) → row_of next j ≡ row_behind T w s.ahead j

-- to be below c or below c + 1 is the same for every number but c
beside : (a c : ℕ) → a ≢ c → ltb a c ≡ ltb a (c + 1)
beside a c e = go (ltb a c) refl
  where
    go : (b : Bool) → ltb a c ≡ b → b ≡ ltb a (c + 1)
    go true h = sym (lt-ltb a (c + 1) (omega (arith, ltb-true a c h)))
    go false h = sym (le-ltb a (c + 1) (omega (arith, ltb-false a c h, e)))

keep_none : (f : ℕ → Bool) (l : List ℕ) → Each (λ j. f j ≡ false) l → keep f l ≡ []
unfolding keep
keep_none f [] none = refl
keep_none f (j ∷ l) none =
    rw (each_head (λ i. f i ≡ false) j l none) (keep_none f l (each_tail (λ i. f i ≡ false) j l none))

module _ {up : Bool} {T : ℕ} {rows w : List Row} (written : Written up T rows w) where
  -- where the sweep leaves a row as it is, it does not matter who has been passed
  row_anyway : (j c : ℕ) → row_of (settled T w) j ≡ row_of w j → row_behind T w c j ≡ row_of w j
  row_anyway j c stays =
      either (λ r. r) (ltb (ahead w (row_of w j).turn.0) c) (row_of (settled T w) j) (row_of w j) (sym stays) ∙ stays

  -- ---- At the beginning

  pub midway_start : Midway T w (line rows) front w
  midway_start =
      record {
        walk = subst (Walk w front) (line_now written) (walk_start w written.apart);
        long = refl;
        row = λ j.
            sym
            (ap (λ (b : Bool). cond b (row_of (settled T w) j) (row_of w j))
            (le-ltb (ahead w (row_of w j).turn.0) 0 (omega arith)));
      }

  -- ---- At each job

  module _ {j : ℕ} {left : List ℕ} {s : Standing} {next : List Row} (m : Midway T w (j ∷ left) s next) where
    -- a row is live exactly if it was written so
    live_now : live (row_of next j) ≡ live_in w j
    live_now =
        let turned : live_in (settled T w) j ≡ live_in w j = ap (λ (t : Turn). ltb 0 t.0) (turn_settled T w j) in
        ap live (m.row j)
        ∙ either live (ltb (ahead w (row_of w j).turn.0) s.ahead) (row_of (settled T w) j) (row_of w j) (sym turned)
        ∙ turned

    module _ (lives : live (row_of next j) ≡ true) where
      -- the walk comes to every job that has a request
      walk_now : Walk w s (j ∷ keep (live_in w) left)
      unfolding keep
      walk_now = rw (sym live_now ∙ lives) at m.walk

      here_now : s.ahead ≡ ahead w (row_of w j).turn.0
      here_now = (walk_stands walk_now).before

      row_now : row_of next j ≡ row_of w j
      row_now =
          m.row j
          ∙ ap (λ (b : Bool). cond b (row_of (settled T w) j) (row_of w j))
          (le-ltb (ahead w (row_of w j).turn.0) s.ahead (omega (arith, here_now)))

      -- with its row as it will be, one more is passed
      moved :
          (next' : List Row) → length next' ≡ length w → row_of next' j ≡ row_of (settled T w) j →
          ((i : ℕ) → i ≢ j → row_of next' i ≡ row_of next i) → Midway T w left (behind s (row_of next j)) next'
      moved next' long here elsewhere =
          record {
            walk = subst (λ (r : Row). Walk w (behind s r) (keep (live_in w) left)) (sym row_now) (walk_step walk_now);
            long = long;
            row = λ i. go i (ℕ_discrete i j);
          }
        where
          same : (i : ℕ) → i ≢ j → (b : Bool) → live_in w i ≡ b → row_behind T w s.ahead i ≡ row_behind T w (s.ahead + 1) i
          same i e true h =
              ap (λ (b : Bool). cond b (row_of (settled T w) i) (row_of w i))
              (beside (ahead w (row_of w i).turn.0) s.ahead
              (λ p. e (one_place w written.apart i j (ltb-true 0 (row_of w i).turn.0 h) (walk_alive walk_now) (p ∙ here_now))))
          same i e false h =
              let stays = (after_idle written i h).0 in
              row_anyway i s.ahead stays ∙ sym (row_anyway i (s.ahead + 1) stays)

          go : (i : ℕ) → Dec (i ≡ j) → row_of next' i ≡ row_behind T w (s.ahead + 1) i
          go i (yes e) =
              subst (λ (i : ℕ). row_of next' i ≡ row_behind T w (s.ahead + 1) i) (sym e)
              (here
              ∙ ap (λ (b : Bool). cond b (row_of (settled T w) j) (row_of w j))
              (sym (lt-ltb (ahead w (row_of w j).turn.0) (s.ahead + 1) (omega (arith, here_now)))))
          go i (no e) = elsewhere i e ∙ m.row i ∙ same i e (live_in w i) refl

    -- ---- What each job asks of the sweep

    -- whoever has gone is passed over
    pub midway_gone : live (row_of next j) ≡ false → Midway T w left s next × (woke T rows (settled T w) j ≡ false)
    unfolding keep
    midway_gone gone =
        let none = sym live_now ∙ gone in
        (record { walk = rw none at m.walk; long = m.long; row = m.row }, (after_idle written j none).1)

    module _ (lives : live (row_of next j) ≡ true) (token : s.ahead < T) where
      after_now :
          (row_of (settled T w) j ≡ cond (wakes_by up T s (row_of next j)) (goes_on (row_of next j)) (row_of next j))
          × (woke T rows (settled T w) j ≡ wakes_by up T s (row_of next j))
      after_now =
          subst
          (λ (r : Row). (row_of (settled T w) j ≡ cond (wakes_by up T s r) (goes_on r) r)
          × (woke T rows (settled T w) j ≡ wakes_by up T s r))
          (sym (row_now lives))
          (after_near written j (walk_alive (walk_now lives)) s (walk_stands (walk_now lives)) token)

      pub midway_stays :
          wakes_by up T s (row_of next j) ≡ false →
          Midway T w left (behind s (row_of next j)) next × (woke T rows (settled T w) j ≡ false)
      midway_stays e = (
        moved lives next m.long
            (sym (after_now.0 ∙ ap (λ (b : Bool). cond b (goes_on (row_of next j)) (row_of next j)) e))
            (λ i _. refl),
        after_now.1 ∙ e,
      )

      pub midway_wakes :
          wakes_by up T s (row_of next j) ≡ true →
          Midway T w left (behind s (row_of next j)) (set next j (goes_on (row_of next j)))
          × (woke T rows (settled T w) j ≡ true)
      midway_wakes e =
          let gone = goes_on (row_of next j) in (
            moved lives (set next j gone) (length-set next j gone ∙ m.long)
                (get_or-set_same next j gone idle (live_within next j (ltb-true 0 (row_of next j).turn.0 lives))
                ∙ sym (after_now.0 ∙ ap (λ (b : Bool). cond b (goes_on (row_of next j)) (row_of next j)) e))
                (λ i. get_or-set_other next j i gone idle),
            after_now.1 ∙ e,
          )

  -- ---- At the end

  pub midway_end :
      {left : List ℕ} {s : Standing} {next : List Row} → Midway T w left s next → (left ≡ []) ⊎ (T ≤ s.ahead) →
      (next ≡ settled T w) × (keep (woke T rows (settled T w)) left ≡ [])
  unfolding keep
  midway_end {left} {s} {next} m end = (
    ext_get_or idle next (settled T w)
        (m.long ∙ sym (length_settled T w))
        (λ j _. m.row j ∙ each j (live_in w j) refl),
    sym (keep_within (woke T rows (settled T w)) (live_in w) (λ j none. (after_idle written j none).1) left) ∙ none,
  )
    where
      -- nobody still to come has a token, or nobody is still to come
      settled_now :
          (j : ℕ) → 0 < (row_of w j).turn.0 → s.ahead ≤ ahead w (row_of w j).turn.0 → (left ≡ []) ⊎ (T ≤ s.ahead) →
          (row_of (settled T w) j ≡ row_of w j) × (woke T rows (settled T w) j ≡ false)
      settled_now j lives far (inl e) =
          let done : Walk w s [] = subst (λ (l : List ℕ). Walk w s (keep (live_in w) l)) e m.walk in
          absurd (omega (arith, walk_end done j lives))
      settled_now j lives far (inr e) = after_far written j lives (omega arith)

      each : (j : ℕ) (b : Bool) → live_in w j ≡ b → row_behind T w s.ahead j ≡ row_of (settled T w) j
      each j true h = go (ltb (ahead w (row_of w j).turn.0) s.ahead) refl
        where
          go :
              (b : Bool) → ltb (ahead w (row_of w j).turn.0) s.ahead ≡ b →
              cond b (row_of (settled T w) j) (row_of w j) ≡ row_of (settled T w) j
          go true e = refl
          go false e =
              sym
              (settled_now j (ltb-true 0 (row_of w j).turn.0 h) (ltb-false (ahead w (row_of w j).turn.0) s.ahead e) end).0
      each j false h =
          let stays = (after_idle written j h).0 in
          row_anyway j s.ahead stays ∙ sym stays

      none : keep (woke T rows (settled T w)) (keep (live_in w) left) ≡ []
      none =
          keep_none (woke T rows (settled T w)) (keep (live_in w) left)
          (λ i within. let later = walk_later (keep (live_in w) left) m.walk i within in
          (settled_now (get_or (keep (live_in w) left) i 0) later.0 later.1 end).1)

-- ---- With the list

-- the rows and the list of those who wake, with p jobs of the line passed
pub record Sweeps (T : ℕ) (rows w : List Row) (before out : List ℕ) (next : List Row) (s : Standing) (n p : ℕ) : Type 0 where
  pub midway : Midway T w (drop p (line rows)) s next
  pub writing : Writing (woke T rows (settled T w)) (line rows) before out n p

module _ {up : Bool} {T : ℕ} {rows w : List Row} (written : Written up T rows w) where
  pub sweeps_start : (before : List ℕ) → Sweeps T rows w before before w front 0 0
  sweeps_start before =
      record { midway = midway_start written; writing = writing_start (woke T rows (settled T w)) (line rows) before }

  module _ {before out : List ℕ} {next : List Row} {s : Standing} {n p : ℕ} (at : Sweeps T rows w before out next s n p) where
    module _ (j : ℕ) (within : p < length (line rows)) (here : get_or (line rows) p 0 ≡ j) where
      now_at : Midway T w (j ∷ drop (p + 1) (line rows)) s next
      now_at =
          subst (λ (l : List ℕ). Midway T w l s next)
          (drop-cons (line rows) p 0 within ∙ (λ i. here i ∷ drop (sym (add-one p) i) (line rows)))
          at.midway

      -- a job that has gone
      pub sweeps_gone : live (row_of next j) ≡ false → Sweeps T rows w before out next s n (p + 1)
      sweeps_gone gone =
          let m = midway_gone written now_at gone in
          record { midway = m.0; writing = writing_passed at.writing j within here m.1 }

      module _ (lives : live (row_of next j) ≡ true) (token : s.ahead < T) where
        module _ (t : Standing) (next-is : t ≡ behind s (row_of next j)) where
          pub sweeps_stays : wakes_by up T s (row_of next j) ≡ false → Sweeps T rows w before out next t n (p + 1)
          sweeps_stays e =
              let m = midway_stays written now_at lives token e in
              record {
                midway = rw next-is m.0;
                writing = writing_passed at.writing j within here m.1;
              }

          pub sweeps_wakes :
              wakes_by up T s (row_of next j) ≡ true → n < length out → (x : Row) → x ≡ goes_on (row_of next j) →
              Sweeps T rows w before (set out n j) (set next j x) t (n + 1) (p + 1)
          sweeps_wakes e room x goes =
              let m = midway_wakes written now_at lives token e in
              record {
                midway = rw (next-is, goes) m.0;
                writing = writing_written at.writing j within here m.1 room;
              }

      module _ (token : s.ahead < T) (room : n < length out) where
        abbrev r : Row
        r = row_of next j

        -- what passing a job comes to, in rows and list
        abbrev After : Passed → Type 0
        After q = Sweeps T rows w before (noted out n j q.woke) (set next j q.row) q.s (n + bit q.woke) (p + 1)

        -- who is not woken keeps its row, and is not listed
        kept : (t : Standing) → Sweeps T rows w before out next t n (p + 1) → After (record { row = r; s = t; woke = false })
        kept t q =
            subst (λ (m : ℕ). Sweeps T rows w before out (set next j r) t m (p + 1)) (sym (add-zero n))
            (subst (λ (l : List Row). Sweeps T rows w before out l t n (p + 1)) (sym (set-get_or next j idle)) q)

        pub sweeps_passed : After (passed_by up T s r)
        sweeps_passed = go (live r) refl
          where
            awake : live r ≡ true → (b : Bool) → wakes_by up T s r ≡ b → After (passed_by up T s r)
            awake lives true e =
                subst After (passed_wakes up T s r lives e)
                (sweeps_wakes lives token (behind s r) refl e room (goes_on r) refl)
            awake lives false e =
                subst After (passed_stays up T s r lives e) (kept (behind s r) (sweeps_stays lives token (behind s r) refl e))

            go : (b : Bool) → live r ≡ b → After (passed_by up T s r)
            go true lives = awake lives (wakes_by up T s r) refl
            go false gone = subst After (passed_gone up T s r gone) (kept s (sweeps_gone gone))

    pub sweeps_end :
        (length (line rows) ≤ p) ⊎ (T ≤ s.ahead) → n ≤ length out →
        (next ≡ settled T w) × Listed (woken T rows (settled T w)) before n out
    sweeps_end end fits =
        let ends : (drop p (line rows) ≡ []) ⊎ (T ≤ s.ahead) =
        ⊎_elim (λ all. inl (drop_of_length-le (line rows) {i = p} all)) (λ far. inr far) end in
        let m = midway_end written at.midway ends in (
          m.0,
          subst (λ (l : List ℕ). Listed l before n out) (sym (woken_line written)) (writing_done at.writing m.1 fits),
        )
