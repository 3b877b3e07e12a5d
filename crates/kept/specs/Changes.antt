-- What an accepted event does to the turns and declared sets of the rows, said once for each event, and what follows for every
-- count.
use Rattle.std.specs.Prelude.{◌&&◌, ◌+◌, ◌<◌, ◌≡◌, ◌≤◌}
use Rattle.kept.specs.Prelude.{Ask, Beat, Bool, Complete, GiveUp, List, Open, Release, Row, Table, ◌∙◌, about, accepted, ahead, and-eq-true_iff, and-not_self, ap, arith, blocked, claims, cond, count, dec_le, earlier, either, eq-eqb, false, false≢true, get_or-set_other, get_or-set_same, giving_up, gone, gone_balance, gone_none, has_job, idle, in_way, job_of, length, length-set, length_settled, live_within, ltb, meets, meets_without, names, not, not_earlier, opened_row, opening_of, refl, row_settled, row_after, row_in, row_of, rows_with, set, set_out, set_of, settled, subst, swept_idle, swept_keeps, swept_row, sym, tick_of, time_at, true, true≢false, without, ℕ, ℕ_discrete}
use Rattle.event.specs.declared.events.Event.{Event}
use Rattle.kept.specs.Accepted.{acts, open_idle}
use Rattle.kept.specs.Words.{Accepts, Acts, Alike, ByOpening, Change, Clearer, Lower, began, ended, gave, kept}

-- ---- What becomes of a row

module _ (n : ℕ) (t : Table) where
  -- what is settled keeps the turns and the declared sets that were written
  opening_written : (e : Event) (k : ℕ) → opening_of (row_in (accepted t e) k) ≡ opening_of (row_of (rows_with t e) k)
  opening_written e k = go (about e).wakes
    where
      written : List Row
      written = rows_with t e

      go : (w : Bool) → opening_of (row_of (cond w (settled t.tokens written) written) k) ≡ opening_of (row_of written k)
      go true = ap opening_of (row_settled t.tokens written k) ∙ swept_keeps t.tokens written (row_of written k)
      go false = refl

  -- where row j is written as r by an event that acts, only that row changes
  acted :
      (e : Event) (j : ℕ) (r : Row) → rows_with t e ≡ set t.rows j r → 0 < (row_in t j).turn.0 →
      (row_of (rows_with t e) j ≡ r → Change t e j) → (k : ℕ) → Change t e k
  acted e j r rows alive own k = go (ℕ_discrete k j)
    where
      go : Dec (k ≡ j) → Change t e k
      go (yes q) =
          subst (Change t e) (sym q)
          (own (rw rows (get_or-set_same t.rows j r idle (live_within t.rows j alive))))
      go (no q) = kept (opening_written e k ∙ rw (rows, get_or-set_other t.rows j k r idle q))

  pub changes : (e : Event) → Accepts n t e → (k : ℕ) → Change t e k
  changes (Beat tick) ok k = kept refl
  changes (Open j tick s) ok k = go (ℕ_discrete k j) (dec_le (length t.rows) j)
    where
      r : Row
      r = opened_row t (time_at t tick.0) s

      go : Dec (k ≡ j) → Dec (length t.rows ≤ j) → Change t (Open j tick s) k
      go q (yes out) = kept (ap (λ (rows : List Row). opening_of (row_of rows k)) (set_out t.rows j r out))
      go (yes q) (no h) =
          began (eq-eqb j k (sym q)) (rw q (open_idle n t j tick s ok))
          (rw (q, get_or-set_same t.rows j r idle (omega arith)) refl)
      go (no q) (no h) = kept (ap opening_of (get_or-set_other t.rows j k r idle q))
  changes (Ask j tick s) ok k =
      acted (Ask j tick s) j _ refl (acts n t (Ask j tick s) ok refl).alive
      (λ own. kept (ap opening_of own ∙ either opening_of (blocked t.rows (row_in t j).turn.0 s) _ _ refl)) k
  changes (Release j tick s) ok k =
      acted (Release j tick s) j _ refl (acts n t (Release j tick s) ok refl).alive (λ own. kept (ap opening_of own)) k
  changes (Complete j tick) ok k =
      let a = acts n t (Complete j tick) ok refl in
      let left = rows_with t (Complete j tick) in
      acted (Complete j tick) j idle refl a.alive
      (λ own.
      ended refl (eq-eqb j j refl) a
      (row_settled t.tokens left j ∙ ap (swept_row t.tokens left) own ∙ swept_idle t.tokens left)) k
  changes (GiveUp j tick s) ok k =
      let a = acts n t (GiveUp j tick s) ok refl in
      acted (GiveUp j tick s) j (giving_up (row_in t j) s) refl a.alive
      (λ own. gave refl (eq-eqb j j refl) a (opening_written (GiveUp j tick s) j ∙ ap opening_of own)) k

-- ---- Who leaves, and how many stay

module _ (t : Table) (e : Event) (k : ℕ) where
  abbrev old : Row
  old = row_in t k

  abbrev new : Row
  new = row_in (accepted t e) k

  -- under an event that is not its own a row keeps its turn and its declared set
  pub unnamed_keeps : Change t e k → names k e ≡ false → opening_of new ≡ opening_of old
  unnamed_keeps (kept same) other = same
  unnamed_keeps (gave _ named _ _) other = absurd (true≢false (sym named ∙ other))
  unnamed_keeps (ended _ named _ _) other = absurd (true≢false (sym named ∙ other))
  unnamed_keeps (began named _ _) other = absurd (true≢false (sym named ∙ other))

  module _ {f : Row → Bool} (opening : ByOpening f) where
    -- a row with the turn and the declared set of another passes if that one does
    passes_as : (r : Row) → opening_of new ≡ opening_of r → f new ≡ f r
    passes_as r same = sym (opening.by_opening new) ∙ ap f same ∙ opening.by_opening r

    -- a row that passed before fails after only by its own event, and only by one that may wake others
    pub leaves_by_own : Change t e k → (f old && not (f new)) ≡ true → ((about e).wakes ≡ true) × (names k e ≡ true) × Acts t k
    leaves_by_own (kept same) gone =
        absurd (false≢true (sym (ap (λ (b : Bool). f old && not b) (passes_as old same) ∙ and-not_self (f old)) ∙ gone))
    leaves_by_own (gave loud named a _) gone = (loud, named, a)
    leaves_by_own (ended loud named a _) gone = (loud, named, a)
    leaves_by_own (began _ was _) gone =
        absurd (false≢true (sym (ap (λ (b : Bool). b && not (f new)) (opening.idle_fails old was)) ∙ gone))

module _ (n : ℕ) (t : Table) (e : Event) (ok : Accepts n t e) where
  abbrev after : List Row
  after = (accepted t e).rows

  pub length_after : length after ≡ length t.rows
  length_after = go (about e).wakes (has_job (about e).role)
    where
      row : Row
      row = row_after t (time_at t (tick_of e)) e (row_in t (job_of e))

      one : (b : Bool) → length (cond b (set t.rows (job_of e) row) t.rows) ≡ length t.rows
      one true = length-set t.rows (job_of e) row
      one false = refl

      go :
          (w b : Bool) →
          length
          (cond w (settled t.tokens (cond b (set t.rows (job_of e) row) t.rows))
          (cond b (set t.rows (job_of e) row) t.rows))
          ≡ length t.rows
      go true b = length_settled t.tokens (cond b (set t.rows (job_of e) row) t.rows) ∙ one b
      go false b = one b

  module _ {m : ℕ} {f : Row → Bool} (low : Lower m f) (given : m ≤ t.last.0) where
    -- whoever passes after passed before
    nobody_comes : (k : ℕ) → Change t e k → (f (row_in (accepted t e) k) && not (f (row_in t k))) ≡ false
    nobody_comes k (kept same) =
        ap (λ (b : Bool). b && not (f (row_in t k))) (passes_as t e k low.opening (row_in t k) same) ∙ and-not_self (f (row_in t k))
    nobody_comes k (gave _ _ _ less) =
        ap (λ (b : Bool). b && not (f (row_in t k))) (passes_as t e k low.opening (giving_up (row_in t k) (set_of e)) less)
        ∙ nothing (f (giving_up (row_in t k) (set_of e))) (f (row_in t k)) (low.opening.gains_nothing (row_in t k) (set_of e))
      where
        nothing : (a b : Bool) → (a ≡ true → b ≡ true) → (a && not b) ≡ false
        nothing true b h = ap not (h refl)
        nothing false b h = refl
    nobody_comes k (ended _ _ _ now) =
        ap (λ (b : Bool). b && not (f (row_in t k))) (ap f now ∙ low.opening.idle_fails idle refl)
    nobody_comes k (began _ _ next) =
        ap (λ (b : Bool). b && not (f (row_in t k))) (low.late_fails (row_in (accepted t e) k) (omega arith))

    -- the law behind every count: those who pass after an accepted event, and those who left by it, are those who passed before
    pub count_accepted : gone f t.rows after + count f after ≡ count f t.rows
    count_accepted =
        omega (
          arith,
          gone_balance f t.rows after (sym length_after),
          gone_none idle f after t.rows (λ k. nobody_comes k (changes n t e ok k)),
        )

    -- where an event wakes nobody, none leaves, and as many pass as before
    pub count_stays : (about e).wakes ≡ false → count f after ≡ count f t.rows
    count_stays quiet =
        omega (arith, count_accepted, gone_none idle f t.rows after (λ k. stays k _ refl))
      where
        stays : (k : ℕ) (b : Bool) → (f (row_in t k) && not (f (row_in (accepted t e) k))) ≡ b → b ≡ false
        stays k true gone = sym (leaves_by_own t e k low.opening (changes n t e ok k) gone).0 ∙ quiet
        stays k false gone = refl

-- ---- Its two instances

module _ (n : ℕ) where
  pub lower_ahead : Lower n (earlier n)
  lower_ahead =
      record {
        opening =
            record {
              by_opening = λ r. refl;
              idle_fails = λ r e. ap (λ (m : ℕ). ltb 0 m && ltb m n) e;
              gains_nothing = λ r s passes. passes;
            };
        late_fails = not_earlier n;
      }

  pub lower_way : (s : ℕ) → Lower n (claims n s)
  lower_way s =
      record {
        opening =
            record {
              by_opening = λ r. refl;
              idle_fails = λ r e. ap (λ (b : Bool). b && meets r.declared s) (lower_ahead.opening.idle_fails r e);
              gains_nothing = λ r x passes.
                  let both = and-eq-true_iff (earlier n r) (meets (without r.declared x) s) in
                  (and-eq-true_iff (earlier n r) (meets r.declared s)).1
                  ((both.0 passes).0, meets_without r.declared x s (both.0 passes).1);
            };
        late_fails = λ r h. ap (λ (b : Bool). b && meets r.declared s) (lower_ahead.late_fails r h);
      }

module _ (n : ℕ) (t : Table) (e : Event) (ok : Accepts n t e) (m : ℕ) (given : m ≤ t.last.0) where
  pub ahead_accepted : gone (earlier m) t.rows (accepted t e).rows + ahead (accepted t e).rows m ≡ ahead t.rows m
  unfolding ahead
  ahead_accepted = count_accepted n t e ok (lower_ahead m) given

  pub way_accepted :
      (s : ℕ) → gone (claims m s) t.rows (accepted t e).rows + in_way (accepted t e).rows m s ≡ in_way t.rows m s
  unfolding in_way
  way_accepted s = count_accepted n t e ok (lower_way m s) given

  -- from a turn that was given, the rows after an event that wakes nobody look as those before
  pub alike_quiet : (about e).wakes ≡ false → Alike t.rows (accepted t e).rows m
  unfolding ahead in_way
  alike_quiet quiet =
      record {
        same_ahead = sym (count_stays n t e ok (lower_ahead m) given quiet);
        same_way = λ x. sym (count_stays n t e ok (lower_way m x) given quiet);
      }

  -- and after any event no more stand before it and no more are in its way
  pub clearer : Clearer t.rows (accepted t e).rows m
  clearer = record { less_ahead = omega (arith, ahead_accepted); less_way = λ x. omega (arith, way_accepted x) }
