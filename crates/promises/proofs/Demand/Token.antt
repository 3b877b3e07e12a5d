-- The token of a request: it is opened with all live requests before it, and as many must complete as are too many.
use Rattle.std.specs.Prelude.{◌&&◌, ◌+◌, ◌-◌, ◌<◌, ◌||◌, ◌∷◌, ◌≡◌, ◌≤◌}
use Rattle.promises.specs.Prelude.{Ask, Beat, Bool, Complete, GiveUp, List, Open, Release, Row, Table, Tick, [], ◌∙◌, accepted, ahead, ahead_mono, and_left, and-true, ap, ap₂, arith, bit, blocked, cond, count, count_mono, course, earlier, either, eqb, false, get_or-set_same, idle, jobs, le_antisymm, le-leb, leb, leb-true, length, live, lt-ltb, ltb, ltb-false, ltb-true, names, next, not, opened_row, refl, row_in, run, same, subst, sym, time_at, token, true, turn_earlier, waiting, wakes, ℕ}
use Rattle.event.specs.declared.events.Event.{Event}
use Rattle.promises.specs.History.Words.{completing_by, completions, lists, taken, Along, Bears, tally_of}
use Rattle.promises.proofs.History.Events.{next_either}
use Rattle.kept.specs.Words.{Accepts, Acts}
use Rattle.promises.proofs.History.Count.{ahead_run, along_accepted, along_next}
use Rattle.promises.proofs.History.Row.{alive, bears_after, lives, sets_after, waiting_is}
use Rattle.promises.proofs.History.Woken.{listed_after, unnamed}
use Rattle.kept.specs.Accepted.{acts, next_accepted, open_below, was_sound}
use Rattle.kept.specs.Sound.Facts.{turns_given}

-- ---- The opening

module _ {T : ℕ} (t : Table) (along : Along T 0 t) (j : ℕ) (tick : Tick) (s : ℕ) (ok : Accepts jobs t (Open j tick s)) where
  abbrev pub n : ℕ
  n = t.last.0 + 1

  pub along_opened : Along T n (next jobs t (Open j tick s))
  along_opened =
      let after = along_accepted along (Open j tick s) ok in
      subst (Along T n) (sym (next_accepted jobs t (Open j tick s) ok))
      (record { wide = after.wide; tokens = after.tokens; given = omega arith })

  -- it declares what it was opened with
  pub declared_opened : (row_in (next jobs t (Open j tick s)) j).declared ≡ s
  declared_opened =
      let below : j < length t.rows = omega (arith, along.wide, open_below jobs t j tick s ok) in
      rw (next_accepted jobs t (Open j tick s) ok)
      (ap (λ (r : Row). r.declared) (get_or-set_same t.rows j (opened_row t (time_at t tick.0) s) idle below))

  -- every live turn has been given, so it is lower than the next
  pub all_before : ahead t.rows n ≡ count live t.rows
  unfolding ahead
  all_before =
      let p = was_sound jobs t (Open j tick s) ok in
      le_antisymm
      (count_mono live idle refl (earlier n) t.rows t.rows
      (λ k. and_left (live (row_in t k)) (ltb (row_in t k).turn.0 n)))
      (count_mono (earlier n) idle refl live t.rows t.rows
      (λ k lives. turn_earlier n (row_in t k) (ltb-true 0 (row_in t k).turn.0 lives) (omega (arith, turns_given p k))))

-- ---- Plain numbers

-- to be below T is to be at most T-1
pub below_at_most : (p T : ℕ) → 1 ≤ T → ltb p T ≡ leb p (T - 1)
below_at_most p T some =
    same (ltb p T) (leb p (T - 1))
    (λ q. le-leb p (T - 1) (omega (arith, ltb-true p T q)))
    (λ q. lt-ltb p T (omega (arith, leb-true p (T - 1) q)))

-- of p rows a are left, e having left: they are fewer than T exactly if as many left as p exceeds T-1
enough : (a e p T : ℕ) → 1 ≤ T → e + a ≡ p → ltb a T ≡ leb (p - (T - 1)) e
enough a e p T some sum =
    same (ltb a T) (leb (p - (T - 1)) e)
    (λ q. le-leb (p - (T - 1)) e (omega (arith, ltb-true a T q)))
    (λ q. lt-ltb a T (omega (arith, leb-true (p - (T - 1)) e q)))

-- and so for l, which is at least e, and more only once they are fewer than T
enough_all : (a e l p T : ℕ) → 1 ≤ T → e + a ≡ p → e ≤ l → (T ≤ a → l ≡ e) → ltb a T ≡ leb (p - (T - 1)) l
enough_all a e l p T some sum more till =
    same (ltb a T) (leb (p - (T - 1)) l)
    (λ q. le-leb (p - (T - 1)) l (omega (arith, ltb-true a T q)))
    (λ q. few (ltb a T) refl (leb-true (p - (T - 1)) l q))
  where
    few : (b : Bool) → ltb a T ≡ b → p - (T - 1) ≤ l → b ≡ true
    few true c h = refl
    few false c h = absurd (omega (arith, till (ltb-false a T c), ltb-false a T c))

-- ---- Completions of earlier requests, and all

-- an event counts for two tests as the row that it completes does, or for neither
completing_two :
    (f g : Row → Bool) (P : ℕ → ℕ → Type 0) (t : Table) → P 0 0 →
    (e : Event) → ((k : ℕ) (tick : Tick) → e ≡ Complete k tick → P (bit (f (row_in t k))) (bit (g (row_in t k)))) →
    P (completing_by f t e) (completing_by g t e)
completing_two f g P t none (Beat tick) this = none
completing_two f g P t none (Open k tick s) this = none
completing_two f g P t none (Ask k tick s) this = none
completing_two f g P t none (Release k tick s) this = none
completing_two f g P t none (Complete k tick) this = this k tick refl
completing_two f g P t none (GiveUp k tick s) this = none

-- until the token comes every completion is one of an earlier request
module _ {T n : ℕ} where
  -- while turn n has no token, whoever acts has a lower turn
  acts_before :
      (t : Table) → Along T n t → T ≤ ahead t.rows n → (i : ℕ) → Acts t i → live (row_in t i) ≡ earlier n (row_in t i)
  acts_before t along lacks i a = go (ltb turn n) refl
    where
      turn : ℕ
      turn = (row_in t i).turn.0

      go : (b : Bool) → ltb turn n ≡ b → live (row_in t i) ≡ (live (row_in t i) && b)
      go true q = sym (and-true (live (row_in t i)))
      go false q =
          absurd (omega (
            arith,
            along.tokens,
            a.has,
            ahead_mono t.rows n turn (ltb-false turn n q),
          ))

  all_complete :
      (t : Table) → Along T n t → T ≤ ahead t.rows n → (e : Event) → Accepts jobs t e →
      completing_by live t e ≡ completing_by (earlier n) t e
  all_complete t along lacks e ok =
      completing_two live (earlier n) (λ a b. a ≡ b) t refl e
      (λ k tick q. ap bit (acts_before t along lacks k (acts jobs t (Complete k tick) (subst (Accepts jobs t) q ok) refl)))

  all_earlier :
      (t : Table) → Along T n t → (es : List Event) → T ≤ ahead (run t es).rows n →
      completions live t es ≡ completions (earlier n) t es
  unfolding tally_of course
  all_earlier t along [] lacks = refl
  all_earlier t along (e ∷ es) lacks =
      ap₂ ◌+◌
      (next_either t e
      (λ b u. cond b (completing_by live t e) 0 ≡ cond b (completing_by (earlier n) t e) 0)
      (all_complete t along (omega (arith, ahead_run t along (e ∷ es))) e)
      refl)
      (all_earlier (next jobs t e) (along_next along e) es lacks)

-- at any time the completions of earlier requests are no more than all
module _ (n : ℕ) where
  part_completes : (t : Table) (e : Event) → completing_by (earlier n) t e ≤ completing_by live t e
  part_completes t e =
      completing_two (earlier n) live (λ a b. a ≤ b) t (omega arith) e
      (λ k tick q. less (live (row_in t k)) (ltb (row_in t k).turn.0 n))
    where
      less : (a b : Bool) → bit (a && b) ≤ bit a
      less true true = omega arith
      less true false = omega arith
      less false b = omega arith

  some_earlier : (t : Table) (es : List Event) → completions (earlier n) t es ≤ completions live t es
  unfolding tally_of
  some_earlier t [] = omega arith
  some_earlier t (e ∷ es) =
      let step : cond (taken t e) (completing_by (earlier n) t e) 0 ≤ cond (taken t e) (completing_by live t e) 0 = go (taken t e) in
      omega (arith, some_earlier (next jobs t e) es)
    where
      go : (b : Bool) → cond b (completing_by (earlier n) t e) 0 ≤ cond b (completing_by live t e) 0
      go true = part_completes t e
      go false = omega arith

-- ---- When the token comes

module _ {T n : ℕ} (some : 1 ≤ T) (t : Table) (along : Along T n t) (es : List Event) where
  pub token_by_earlier : token T (run t es).rows n ≡ leb (ahead t.rows n - (T - 1)) (completions (earlier n) t es)
  token_by_earlier =
      enough (ahead (run t es).rows n) (completions (earlier n) t es) (ahead t.rows n) T some (ahead_run t along es)

  pub token_by_all : token T (run t es).rows n ≡ leb (ahead t.rows n - (T - 1)) (completions live t es)
  token_by_all =
      enough_all (ahead (run t es).rows n) (completions (earlier n) t es) (completions live t es) (ahead t.rows n) T some
      (ahead_run t along es)
      (some_earlier n t es)
      (all_earlier t along es)

-- ---- Who is told

module _ {T n j : ℕ} {t : Table} (b : Bears T n j t) (lacks : token T t.rows n ≡ false) where
  abbrev row : Row
  row = row_in t j

  waits : waiting T t.rows row ≡ true
  waits = waiting_is T t.rows row (lives b) (ap (token T t.rows) b.turn ∙ lacks) refl

  module _ (e : Event) (ok : Accepts jobs t e) where
    abbrev after : Table
    after = accepted t e

    own : names j e ≡ false
    own = unnamed b waits e ok

    bears_then : Bears T n j after
    bears_then = bears_after b e ok own

    -- without a token nothing is asked
    asks_none : row.asked ≡ 0
    asks_none =
        let before : ahead t.rows row.turn.0 ≡ ahead t.rows n = ap (ahead t.rows) b.turn in
        (((was_sound jobs t e ok).rows j).lives (alive b)).asks_by_token
        (omega (arith, b.along.tokens, ltb-false (ahead t.rows n) T lacks))

    asks_none_then : (row_in after j).asked ≡ 0
    asks_none_then =
        (sets_after b e ok own).1
        ∙ ap (λ (x : ℕ). cond (blocked after.rows n x) x 0) asks_none
        ∙ either (λ (x : ℕ). x) (blocked after.rows n 0) 0 0 refl

    -- so it waits on exactly where it still has no token
    waits_then : waiting T after.rows (row_in after j) ≡ (not (token T after.rows n) || false)
    waits_then =
        waiting_is T after.rows (row_in after j)
        (lives bears_then)
        (ap (token T after.rows) bears_then.turn)
        (ap (ltb 0) asks_none_then)

  -- the event that brings the token lists the job, once, and none before it does
  pub token_told : (e : Event) → count (eqb j) (lists t e) ≡ bit (token T (next jobs t e).rows n)
  unfolding count
  token_told e =
      next_either t e (λ a u. count (eqb j) (cond a (wakes t e) []) ≡ bit (token T u.rows n))
      (λ ok.
      listed_after b e ok (own e ok)
      ∙ (λ i. bit (waits i && not (waits_then e ok i)))
      ∙ told (token T (accepted t e).rows n))
      (sym (ap bit lacks))
    where
      told : (a : Bool) → bit (not (not a || false)) ≡ bit a
      told true = refl
      told false = refl
