-- The jobs of turns up to n in line, and those of them that are woken, are those of the rows up to n alone.
use Rattle.std.specs.Prelude.{◌&&◌, ◌+◌, ◌-◌, ◌<◌, ◌∷◌, ◌≡◌}
use Rattle.promises.specs.Prelude.{Bool, InTurn, List, Row, [], and-false, and-not_self, and-true, ap, arith, cond, earlier, earlier_turn, false, fun_ext, get_or, idle, keep, late_job, leb, length, length-map, line, lined, lined_in_turn, live, lt-ltb, ltb, ltb-true, not, not_earlier, place, refl, row_of, sym, true, true≢false, turn_earlier, under, waiting, woke, woken, ℕ, ◌∙◌}
use Rattle.kept.specs.Woken.{keep_none}
use Rattle.kept.specs.Sound.Words.{seen}
use Rattle.promises.specs.UpTo.Statement.{up_to}
use Rattle.promises.proofs.UpTo.Rows.{row_up_to, seen_in_lem, waiting_up_to}

-- ---- Keeping of what is kept

pub keep_keep : (f g : ℕ → Bool) (l : List ℕ) → keep f (keep g l) ≡ keep (λ j. g j && f j) l
unfolding keep
keep_keep f g [] = refl
keep_keep f g (j ∷ l) = go (g j) (keep_keep f g l)
  where
    go :
        (b : Bool) → keep f (keep g l) ≡ keep (λ j. g j && f j) l →
        keep f (cond b (j ∷ keep g l) (keep g l)) ≡ cond (b && f j) (j ∷ keep (λ j. g j && f j) l) (keep (λ j. g j && f j) l)
    go true ih = ap (λ (m : List ℕ). cond (f j) (j ∷ m) m) ih
    go false ih = ih

-- ---- The line

module _ (n : ℕ) (rows : List Row) where
  abbrev m : ℕ
  m = n + 1

  abbrev low : ℕ → Bool
  low j = earlier m (row_of rows j)

  abbrev turn_of : ℕ → ℕ
  turn_of j = (row_of rows j).turn.0

  -- among those up to n a job has its turn
  turn_up_to : (j : ℕ) → low j ≡ true → (row_of (up_to n rows) j).turn.0 ≡ turn_of j
  turn_up_to j e = ap (λ (r : Row). r.turn.0) (row_up_to n rows j ∙ seen_in_lem m (row_of rows j) e)

  -- a higher turn that is placed is not kept
  place_out : (j : ℕ) → low j ≡ false → (l : List ℕ) → keep low (place rows j l) ≡ keep low l
  unfolding keep place
  place_out j out [] = rw out
  place_out j out (k ∷ l) = go (ltb (turn_of j) (turn_of k)) (place_out j out l)
    where
      go :
          (b : Bool) → keep low (place rows j l) ≡ keep low l →
          keep low (cond b (j ∷ k ∷ l) (k ∷ place rows j l)) ≡ keep low (k ∷ l)
      go true ih = rw out
      go false ih = ap (λ (x : List ℕ). cond (low k) (k ∷ x) x) ih

  -- one up to n is placed among those kept
  place_in : (j : ℕ) → low j ≡ true → (l : List ℕ) → InTurn rows l → keep low (place rows j l) ≡ place (up_to n rows) j (keep low l)
  unfolding keep place InTurn
  place_in j lo [] h = rw lo
  place_in j lo (k ∷ l) h = go (ltb (turn_of j) (turn_of k)) refl (low k) refl (place_in j lo l h.1)
    where
      go :
          (b : Bool) → ltb (turn_of j) (turn_of k) ≡ b → (c : Bool) → low k ≡ c →
          keep low (place rows j l) ≡ place (up_to n rows) j (keep low l) →
          keep low (cond b (j ∷ k ∷ l) (k ∷ place rows j l)) ≡ place (up_to n rows) j (cond c (k ∷ keep low l) (keep low l))
      go b before true lk ih =
          kept b ih
          ∙ ap (λ (c : Bool). cond c (j ∷ k ∷ keep low l) (k ∷ place (up_to n rows) j (keep low l)))
          (sym ((λ i. ltb (turn_up_to j lo i) (turn_up_to k lk i)) ∙ before))
        where
          kept :
              (b : Bool) → keep low (place rows j l) ≡ place (up_to n rows) j (keep low l) →
              keep low (cond b (j ∷ k ∷ l) (k ∷ place rows j l))
              ≡ cond b (j ∷ k ∷ keep low l) (k ∷ place (up_to n rows) j (keep low l))
          kept true ih = rw (lo, lk)
          kept false ih = rw lk (ap (λ (x : List ℕ). k ∷ x) ih)
      go true before false lk ih =
          let above = ltb-true (turn_of j) (turn_of k) before in
          let late : ¬ (turn_of k < m) = λ q. true≢false (sym (turn_earlier m (row_of rows k) (omega arith) q) ∙ lk) in
          let none : keep low l ≡ [] =
          keep_none low l (λ i inside. not_earlier m (row_of rows (get_or l i 0)) (omega (arith, h.0 i inside))) in
          rw (lo, lk, none)
      go false before false lk ih = rw lk ih

  lined_up_to : (js : List ℕ) → keep low (lined rows js) ≡ lined (up_to n rows) js
  unfolding keep lined
  lined_up_to [] = refl
  lined_up_to (j ∷ js) = go (low j) refl (live (row_of rows j)) refl (lined_up_to js)
    where
      -- it is in line among them exactly if it is one of them
      lives : live (row_of (up_to n rows) j) ≡ low j
      lives = ap live (row_up_to n rows j) ∙ seen_lives (low j) refl
        where
          seen_lives : (b : Bool) → low j ≡ b → live (cond b (row_of rows j) idle) ≡ b
          seen_lives true e = lt-ltb 0 (turn_of j) (earlier_turn m (row_of rows j) e).0
          seen_lives false e = refl

      go :
          (b : Bool) → low j ≡ b → (c : Bool) → live (row_of rows j) ≡ c → keep low (lined rows js) ≡ lined (up_to n rows) js →
          keep low (cond c (place rows j (lined rows js)) (lined rows js))
          ≡ cond (live (row_of (up_to n rows) j)) (place (up_to n rows) j (lined (up_to n rows) js)) (lined (up_to n rows) js)
      go true e true c ih =
          place_in j e (lined rows js) (lined_in_turn rows js) ∙ ap (place (up_to n rows) j) ih
          ∙ ap (λ (b : Bool). cond b (place (up_to n rows) j (lined (up_to n rows) js)) (lined (up_to n rows) js)) (sym (lives ∙ e))
      go true e false c ih = absurd (true≢false (sym (lt-ltb 0 (turn_of j) (earlier_turn m (row_of rows j) e).0) ∙ c))
      go false e c q ih =
          drops c
          ∙ ih
          ∙ ap (λ (b : Bool). cond b (place (up_to n rows) j (lined (up_to n rows) js)) (lined (up_to n rows) js)) (sym (lives ∙ e))
        where
          drops : (c : Bool) → keep low (cond c (place rows j (lined rows js)) (lined rows js)) ≡ keep low (lined rows js)
          drops true = place_out j e (lined rows js)
          drops false = refl

  line_up_to : keep low (line rows) ≡ line (up_to n rows)
  line_up_to = lined_up_to (under (length rows)) ∙ ap (λ (k : ℕ). lined (up_to n rows) (under k)) (sym (length-map rows (seen m)))

  -- what is listed of them, by tests that say the same of each
  pub keep_up_to :
      (f g : ℕ → Bool) → ((j : ℕ) → low j ≡ true → f j ≡ g j) → keep low (keep f (line rows)) ≡ keep g (line (up_to n rows))
  keep_up_to f g same =
      keep_keep low f (line rows)
      ∙ ap (λ (h : ℕ → Bool). keep h (line rows)) (fun_ext (λ j. each j (low j) refl))
      ∙ sym (keep_keep g low (line rows))
      ∙ ap (keep g) line_up_to
    where
      each : (j : ℕ) (b : Bool) → low j ≡ b → (f j && b) ≡ (b && g j)
      each j true e = and-true (f j) ∙ same j e
      each j false e = and-false (f j)

-- of those woken, the ones up to n are those that the rows up to n say, if none of them is new
pub woken_up_to :
    (n T : ℕ) (before after : List Row) →
    ((j : ℕ) → earlier (n + 1) (row_of after j) ≡ true → earlier (n + 1) (row_of before j) ≡ true) →
    keep (λ j. earlier (n + 1) (row_of after j)) (woken T before after) ≡ woken T (up_to n before) (up_to n after)
unfolding woken
woken_up_to n T before after old =
    keep_up_to n after (woke T before after) (woke T (up_to n before) (up_to n after))
    (λ j e i. waiting_up_to n before T j (old j e) i && not (waiting_up_to n after T j e i))

-- no change wakes nobody
pub woken_none : (T : ℕ) (rows : List Row) → woken T rows rows ≡ []
unfolding woken
woken_none T rows =
    keep_none (woke T rows rows) (line rows) (λ i inside. and-not_self (waiting T rows (row_of rows (get_or (line rows) i 0))))

-- of those overdue too
pub late_up_to :
    (n T limit time : ℕ) (rows : List Row) →
    keep (λ j. earlier (n + 1) (row_of rows j)) (keep (late_job T limit time rows) (line rows))
    ≡ keep (late_job T limit time (up_to n rows)) (line (up_to n rows))
late_up_to n T limit time rows =
    keep_up_to n rows (late_job T limit time rows) (late_job T limit time (up_to n rows))
    (λ j e.
    let row : row_of rows j ≡ row_of (up_to n rows) j = sym (row_up_to n rows j ∙ seen_in_lem (n + 1) (row_of rows j) e) in
    λ i. waiting_up_to n rows T j e i && leb limit (time - (row i).since))
