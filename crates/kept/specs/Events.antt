-- Every accepted event leaves a sound table.
use Rattle.std.specs.Prelude.{◌+◌, ◌-◌, ◌<◌, ◌^◌, ◌≡◌, ◌≢◌, ◌≤◌}
use Rattle.kept.specs.Prelude.{Ask, Beat, Bool, Complete, GiveUp, List, Open, Release, Row, Table, Tick, ◌∙◌, accepted, ahead, ap, arith, asked_row, at_set, below, case, cond, dec_le, distinct_rows, distinct_set, distinct_settled, distinct_test, eqb-false, false, giving_up, idle, in_way_empty, inside, inside_empty, inside_refl, inside_trans, inside_without, le_refl, length, live_within, lt_irrefl, lt-ltb, ltb-false, meets, meets_comm, meets_empty, moved, not-false, opened_row, refl, releasing, row_settled, row_in, set, set_out, settled, swept_idle, swept_row, sym, time_at, token, true, waiting, waiting_reads, without, without_inside, ℕ}
use Rattle.event.specs.declared.events.Event.{Event}
use Rattle.kept.specs.Words.{Accepts, Acts, Asked, Decided, Swept, grants, waits, Alike, Clearer, NoEarlier}
use Rattle.kept.specs.Accepted.{acts, open_idle, passed, was_sound}
use Rattle.kept.specs.Changes.{clearer}
use Rattle.kept.specs.Decisions.{asks, sweeps}
use Rattle.kept.specs.Rows.{alike_clearer, alike_kept, alike_opened, alike_self, alike_settled, carried, decided, decided_alike, lessened}
use Rattle.kept.specs.Sound.Words.{LiveRow, SoundRow, SoundTable}
use Rattle.kept.specs.Sound.Tests.{idle_sound}

-- ---- What is left by events after which nothing is settled

-- no other row has the turn of a live row, once it is written again
unshared :
    {t : Table} {j : ℕ} → SoundTable t → (r : Row) → 0 < (row_in t j).turn.0 → r.turn.0 ≡ (row_in t j).turn.0 → (k : ℕ) → k ≢ j →
    (row_in t k).turn.0 ≢ r.turn.0
unshared {j = j} p r alive turn k ne e = ne (sym (p.distinct j k alive (sym (e ∙ turn))))

module _ (t : Table) (tick : Tick) (p : SoundTable t) (in_time : time_at t tick.0 ≤ 2 ^ 63 - 1) where
  onward : (last : ℕ) (rows : List Row) → t.last.0 ≤ last → NoEarlier t (moved t (time_at t tick.0) last rows)
  onward last rows up = record { tokens = refl; resources = refl; time = omega arith; last = up }

  -- the rows are left as they are
  timed_kept : (last : ℕ) → t.last.0 ≤ last → last ≤ 2 ^ 63 - 1 → SoundTable (moved t (time_at t tick.0) last t.rows)
  timed_kept last up high = record {
    ranges = p.ranges;
    time = in_time;
    last = high;
    distinct = p.distinct;
    rows = λ k. record {
      idles = (p.rows k).idles;
      lives = λ l. carried (onward last t.rows up) alike_self ((p.rows k).lives l);
    };
  }

  -- row j becomes r: a sound table, if r is live and sound in it, no other row has its turn, and the other rows look on alike rows
  set_kept :
      (last j : ℕ) (r : Row) → j < length t.rows → t.last.0 ≤ last → last ≤ 2 ^ 63 - 1 →
      0 < r.turn.0 → ((k : ℕ) → k ≢ j → (row_in t k).turn.0 ≢ r.turn.0) →
      ((n : ℕ) → n ≤ t.last.0 → Alike t.rows (set t.rows j r) n) →
      LiveRow (moved t (time_at t tick.0) last (set t.rows j r)) r → SoundTable (moved t (time_at t tick.0) last (set t.rows j r))
  set_kept last j r h up high alive alone alike q = record {
    ranges = p.ranges;
    time = in_time;
    last = high;
    distinct = distinct_set t.rows j r h p.distinct (λ k ne _. alone k ne);
    rows =
        at_set (λ _ r'. SoundRow (moved t (time_at t tick.0) last (set t.rows j r)) r') t.rows j r h
        (record { idles = λ z. absurd (omega arith); lives = λ _. q })
        (λ k _. record {
          idles = (p.rows k).idles;
          lives = λ l.
              let old = (p.rows k).lives l in
              carried (onward last (set t.rows j r) up) (alike (row_in t k).turn.0 old.given) old;
        });
  }

  opened_within :
      (j s : ℕ) → j < length t.rows → (row_in t j).turn.0 ≡ 0 → 0 < s → below s t.resources ≡ true →
      t.last.0 < 2 ^ 63 - 1 → SoundTable (accepted t (Open j tick s))
  opened_within j s h was some in_range room =
      set_kept (t.last.0 + 1) j (opened_row t (time_at t tick.0) s) h (omega arith) (omega arith) (omega arith) alone
      (λ n low. alike n (omega arith)) opened
    where
      alike : (n : ℕ) → n ≤ t.last.0 + 1 → Alike t.rows (accepted t (Open j tick s)).rows n
      alike n low = alike_opened t.rows j (opened_row t (time_at t tick.0) s) n ((p.rows j).idles was) low

      alone : (k : ℕ) → k ≢ j → (row_in t k).turn.0 ≢ t.last.0 + 1
      alone k ne e = omega (arith, ((p.rows k).lives (omega arith)).given)

      within : (b : Bool) → cond b 0 (time_at t tick.0) ≤ time_at t tick.0
      within true = omega arith
      within false = omega arith

      opened : LiveRow (accepted t (Open j tick s)) (opened_row t (time_at t tick.0) s)
      opened = record {
        given = le_refl _;
        declares = λ _. some;
        in_range = in_range;
        held_declared_lem = inside_empty s;
        asked_declared_lem = inside_empty s;
        apart = meets_empty 0;
        holds_by_token = λ _. refl;
        asks_by_token = λ _. refl;
        held_free_lem = in_way_empty (accepted t (Open j tick s)).rows (t.last.0 + 1);
        asked_blocked_lem = λ h. absurd (lt_irrefl 0 h);
        waits_since = within (token t.tokens t.rows (t.last.0 + 1));
        rests = λ h _.
            let same = (alike (t.last.0 + 1) (le_refl _)).same_ahead in
            rw (lt-ltb (ahead t.rows (t.last.0 + 1)) t.tokens (omega arith));
      }

  -- a job past the rows has no row to set
  opened_kept :
      (j s : ℕ) → (row_in t j).turn.0 ≡ 0 → 0 < s → below s t.resources ≡ true → t.last.0 < 2 ^ 63 - 1 →
      SoundTable (accepted t (Open j tick s))
  opened_kept j s was some in_range room = go (dec_le (length t.rows) j)
    where
      go : Dec (length t.rows ≤ j) → SoundTable (accepted t (Open j tick s))
      go (yes out) =
          rw (set_out t.rows j (opened_row t (time_at t tick.0) s) out) (timed_kept (t.last.0 + 1) (omega arith) (omega arith))
      go (no h) = opened_within j s (omega arith) was some in_range room

  -- a live row that keeps turn and declared set, and is sound after
  acted_kept :
      (j : ℕ) (r : Row) → 0 < (row_in t j).turn.0 → r.turn.0 ≡ (row_in t j).turn.0 →
      r.declared ≡ (row_in t j).declared →
      LiveRow (moved t (time_at t tick.0) t.last.0 (set t.rows j r)) r →
      SoundTable (moved t (time_at t tick.0) t.last.0 (set t.rows j r))
  acted_kept j r alive turn declared q =
      let h = live_within t.rows j alive in
      set_kept t.last.0 j r h (le_refl _) p.last (omega arith) (unshared p r alive turn)
      (λ n _. alike_kept t.rows j r n h turn declared) q

  -- after an ask a row waits from now on or not at all
  asked_since :
      {s : ℕ} {r r' : Row} → LiveRow t r → ahead t.rows r.turn.0 < t.tokens → r.asked ≡ 0 → 0 < s →
      Asked t (time_at t tick.0) s r r' → (r'.since ≤ time_at t tick.0) × (r'.asked ≡ 0 → r'.since ≡ 0)
  asked_since {s} {r} {r'} q has nothing some a = go a.decided
    where
      go : Decided t.rows s r r'.held r'.asked → (r'.since ≤ time_at t tick.0) × (r'.asked ≡ 0 → r'.since ≡ 0)
      go (grants way h e) = omega (arith, a.goes_on way, q.rests has nothing)
      go (waits way h e) = omega (arith, a.waits_now way)

  asked_kept :
      (j s : ℕ) → Acts t j → 0 < s → inside s (row_in t j).declared ≡ true → meets s (row_in t j).held ≡ false →
      SoundTable (accepted t (Ask j tick s))
  asked_kept j s may some s-declared s-apart =
      let r = row_in t j in
      let q = (p.rows j).lives may.alive in
      let a = asks t (time_at t tick.0) s r may.nothing in
      let h = live_within t.rows j may.alive in
      let alike = alike_kept t.rows j (asked_row t r (time_at t tick.0) s) r.turn.0 h a.turn a.declared in
      let since = asked_since q may.has may.nothing some a in
      acted_kept j (asked_row t r (time_at t tick.0) s) may.alive a.turn a.declared
      (decided (onward t.last.0 (accepted t (Ask j tick s)).rows (le_refl _)) (alike_clearer alike) q a.turn a.declared
      s-declared (rw meets_comm s-apart) (λ late. absurd (omega (arith, may.has, alike.same_ahead))) since.0 (λ _. since.1)
      (decided_alike alike a.decided))

  released_kept :
      (j s : ℕ) → 0 < (row_in t j).turn.0 → SoundTable (accepted t (Release j tick s))
  released_kept j s alive =
      let h = live_within t.rows j alive in
      let r = row_in t j in
      let q = (p.rows j).lives alive in
      let part = without_inside r.held s in
      let alike = alike_kept t.rows j (releasing r s) r.turn.0 h refl refl in
      let c = carried (onward t.last.0 (set t.rows j (releasing r s)) (le_refl _)) alike q in
      acted_kept j (releasing r s) alive refl refl
      (lessened r.declared (without r.held s) c c.declares (inside_refl r.declared) part
      (inside_trans (without r.held s) r.held r.declared part c.held_declared_lem) c.asked_declared_lem)

-- ---- Events after which the rows are settled: a completion and a give up

-- row j becomes r, and then the rows are settled
module _ (t : Table) (tick : Tick) (p : SoundTable t) (in_time : time_at t tick.0 ≤ 2 ^ 63 - 1) (j : ℕ) (r : Row) where
  abbrev written : List Row
  written = set t.rows j r

  abbrev after : Table
  after = moved t (time_at t tick.0) t.last.0 (settled t.tokens written)

  module _ (clear : (n : ℕ) → n ≤ t.last.0 → Clearer t.rows after.rows n) where
    swept_live : {x x' : Row} → 0 < x.turn.0 → LiveRow t x → Swept t.tokens written x x' → LiveRow after x'
    swept_live {x} {x'} alive q w =
        let less = clear x.turn.0 q.given in
        decided (onward t tick p in_time t.last.0 after.rows (le_refl _)) less q w.turn
        w.declared q.asked_declared_lem q.apart (λ late. q.asks_by_token (omega (arith, less.less_ahead)))
        (since (waiting t.tokens written x') refl) rests
        (decided_alike (alike_settled t.tokens written x.turn.0) w.decided)
      where
        since : (b : Bool) → waiting t.tokens written x' ≡ b → x'.since ≤ time_at t tick.0
        since true e = omega (arith, w.since e, q.waits_since)
        since false e = omega (arith, w.rests e)

        rests : ahead after.rows x'.turn.0 < t.tokens → x'.asked ≡ 0 → x'.since ≡ 0
        rests has nothing =
            w.rests
            ((waiting_reads t.tokens written x' (omega (arith, w.turn))).fails.1
            (omega (arith, (alike_settled t.tokens written x'.turn.0).same_ahead), nothing))

    swept_kept : {x : Row} → SoundRow t x → SoundRow after (swept_row t.tokens written x)
    swept_kept {x} q = record {
      idles = λ z. ap (swept_row t.tokens written) (q.idles (sym w.turn ∙ z)) ∙ swept_idle t.tokens written;
      lives = λ l. let alive : 0 < x.turn.0 = omega (arith, w.turn) in swept_live alive (q.lives alive) w;
    }
      where
        w : Swept t.tokens written x (swept_row t.tokens written x)
        w = sweeps t.tokens written x

    -- a sound table, if r was sound and no other row has its turn
    settled_kept :
        j < length t.rows → SoundRow t r → ((k : ℕ) → k ≢ j → 0 < r.turn.0 → (row_in t k).turn.0 ≢ r.turn.0) →
        SoundTable after
    settled_kept h q alone = record {
      ranges = p.ranges;
      time = in_time;
      last = p.last;
      distinct =
          distinct_rows (settled t.tokens written)
          (distinct_settled t.tokens written
          ∙ distinct_test written (distinct_set t.rows j r h p.distinct alone));
      rows = λ k.
          rw (row_settled t.tokens written k)
          (at_set (λ _ x. SoundRow after (swept_row t.tokens written x)) t.rows j r h
          (swept_kept q) (λ k _. swept_kept (p.rows k)) k);
    }

-- what a request gives up leaves its row sound
given_up_row : {t : Table} {j : ℕ} → SoundTable t → Acts t j → (s : ℕ) → LiveRow t (giving_up (row_in t j) s)
given_up_row {t} {j} p a s =
    let r = row_in t j in
    let q = (p.rows j).lives a.alive in
    lessened (without r.declared s) (without r.held s) q (λ late. absurd (omega (arith, a.has)))
    (without_inside r.declared s) (without_inside r.held s) (inside_without r.held r.declared s q.held_declared_lem)
    (rw a.nothing (inside_empty (without r.declared s)))

-- ---- Whatever the event

pub accepted_kept : (n : ℕ) (t : Table) (e : Event) → Accepts n t e → SoundTable (accepted t e)
unfolding case
accepted_kept n t (Beat tick) ok =
    let p = was_sound n t (Beat tick) ok in
    timed_kept t tick p (ltb-false _ _ (passed n t (Beat tick) ok 6)) t.last.0 (le_refl _) p.last
accepted_kept n t (Open j tick s) ok =
    let p = was_sound n t (Open j tick s) ok in
    let off = passed n t (Open j tick s) ok in
    opened_kept t tick p (ltb-false _ _ (off 6)) j s (open_idle n t j tick s ok) (omega (arith, eqb-false s 0 (off 11)))
    (not-false _ (off 12)) (omega (arith, p.last, eqb-false t.last.0 (2 ^ 63 - 1) (off 16)))
accepted_kept n t (Ask j tick s) ok =
    let off = passed n t (Ask j tick s) ok in
    asked_kept t tick (was_sound n t (Ask j tick s) ok) (ltb-false _ _ (off 6)) j s (acts n t (Ask j tick s) ok refl)
    (omega (arith, eqb-false s 0 (off 11))) (not-false _ (off 13)) (off 14)
accepted_kept n t (Release j tick s) ok =
    let off = passed n t (Release j tick s) ok in
    released_kept t tick (was_sound n t (Release j tick s) ok) (ltb-false _ _ (off 6)) j s (acts n t (Release j tick s) ok refl).alive
accepted_kept n t (Complete j tick) ok =
    let off = passed n t (Complete j tick) ok in
    settled_kept t tick (was_sound n t (Complete j tick) ok) (ltb-false _ _ (off 6)) j idle (clearer n t (Complete j tick) ok)
    (live_within t.rows j (acts n t (Complete j tick) ok refl).alive) (idle_sound t) (λ k ne l. absurd (lt_irrefl 0 l))
accepted_kept n t (GiveUp j tick s) ok =
    let off = passed n t (GiveUp j tick s) ok in
    let p = was_sound n t (GiveUp j tick s) ok in
    let a = acts n t (GiveUp j tick s) ok refl in
    settled_kept t tick p (ltb-false _ _ (off 6)) j (giving_up (row_in t j) s) (clearer n t (GiveUp j tick s) ok)
    (live_within t.rows j a.alive)
    (record { idles = λ z. absurd (omega (arith, a.alive, z)); lives = λ _. given_up_row p a s })
    (λ k ne _. unshared p (giving_up (row_in t j) s) a.alive refl k ne)
