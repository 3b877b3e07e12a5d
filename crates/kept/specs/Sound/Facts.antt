-- What holds of every sound table, and so of every table that calls lead to.
use Rattle.std.specs.Prelude.{◌&&◌, ◌<◌, ◌≡◌, ◌≤◌}
use Rattle.kept.specs.Prelude.{Bool, List, Row, Table, ahead, and-eq-true_iff, ap, arith, claims, cond, count, count_at, count_same, count_some, dec_lt, distinct_test, earlier, false, false≢true, idle, in_way_ahead, in_way_at, in_way, inside_reads, live, ltb-true, meets, member, member_empty, min, refl, row_in, row_of, sound, sound_row, sym, token, true, waiting, waiting_reads, ℕ, ◌∙◌}
use Rattle.kept.specs.Words.{Alike}
use Rattle.kept.specs.Sound.Words.{SoundTable, SameNumbers, seen, holds_token}
use Rattle.kept.specs.Sound.Tests.{table_sound}
use Rattle.kept.specs.Sound.Tokens.{tokens_out}

-- ---- From the propositions

module _ {t : Table} (p : SoundTable t) where
  -- each turn was given
  pub turns_given : (k : ℕ) → (row_in t k).turn.0 ≤ t.last.0
  turns_given k = go (dec_lt 0 (row_in t k).turn.0)
    where
      go : Dec (0 < (row_in t k).turn.0) → (row_in t k).turn.0 ≤ t.last.0
      go (yes alive) = ((p.rows k).lives alive).given
      go (no idles) = omega arith

  -- a row that is not all zero is live
  pub not_idle : (j : ℕ) → ¬ (row_in t j ≡ idle) → 0 < (row_in t j).turn.0
  not_idle j other = go (dec_lt 0 (row_in t j).turn.0)
    where
      go : Dec (0 < (row_in t j).turn.0) → 0 < (row_in t j).turn.0
      go (yes alive) = alive
      go (no idles) = absurd (other ((p.rows j).idles (omega arith)))

  holder_alive : (j a : ℕ) → member (row_in t j).held a ≡ true → 0 < (row_in t j).turn.0
  holder_alive j a h =
      not_idle j (λ e. false≢true (sym (member_empty a) ∙ sym (ap (λ (r : Row). member r.held a) e) ∙ h))

  -- of two holders of a resource neither has the lower turn
  no_lower :
      (j k a : ℕ) → member (row_in t j).held a ≡ true → member (row_in t k).held a ≡ true →
      ¬ ((row_in t j).turn.0 < (row_in t k).turn.0)
  no_lower j k a hj hk before =
      let r = row_in t j in
      let alive = holder_alive j a hj in
      let own = (inside_reads r.held r.declared).holds.0 ((p.rows j).lives alive).held_declared_lem a hj in
      let way =
      in_way_at t.rows (row_in t k).turn.0 (row_in t k).held
      (record { job = j; alive = alive; before = before; resource = a; declared = own; wanted = hk }) in
      omega (arith, ((p.rows k).lives (holder_alive k a hk)).held_free_lem)

  with_tokens : (T : ℕ) → count (holds_token T t.rows) t.rows ≡ min T (count live t.rows)
  with_tokens T = tokens_out t.rows (distinct_test t.rows p.distinct) T t.last.0 turns_given

-- ---- Of every sound table

module _ (t : Table) (is-sound : sound t ≡ true) where
  -- tokens in use: as many live rows have one as there are tokens, or all if those are fewer
  pub tokens_in_use : count (holds_token t.tokens t.rows) t.rows ≡ min t.tokens (count live t.rows)
  tokens_in_use = with_tokens (table_sound t is-sound) t.tokens

  -- no resource is held by two
  pub held_by_one :
      (j k a : ℕ) → member (row_in t j).held a ≡ true → member (row_in t k).held a ≡ true → j ≡ k
  held_by_one j k a hj hk =
      let p = table_sound t is-sound in
      p.distinct j k (holder_alive p j a hj) (omega (arith, no_lower p j k a hj hk, no_lower p k j a hk hj))

  -- whoever has nobody ahead does not wait
  pub oldest_never_waits :
      (j : ℕ) → live (row_in t j) ≡ true → ahead t.rows (row_in t j).turn.0 ≡ 0 →
      waiting t.tokens t.rows (row_in t j) ≡ false
  oldest_never_waits j l front =
      let p = table_sound t is-sound in
      let r = row_in t j in
      let alive = ltb-true 0 r.turn.0 l in
      let free : ¬ (0 < r.asked) = λ h.
      omega (arith, ((p.rows j).lives alive).asked_blocked_lem h, in_way_ahead t.rows r.turn.0 r.asked) in
      (waiting_reads t.tokens t.rows r alive).fails.1 (omega (arith, p.ranges.tokens.0), omega arith)

  -- where any row is live some live row has nobody ahead: with the above, no deadlock
  pub some_oldest :
      (j : ℕ) → live (row_in t j) ≡ true →
      (k : ℕ) × (live (row_in t k) ≡ true) × (ahead t.rows (row_in t k).turn.0 ≡ 0)
  some_oldest j alive =
      let some = count_at live idle refl t.rows j alive in
      let one = with_tokens (table_sound t is-sound) 1 in
      let found = count_some (holds_token 1 t.rows) idle t.rows (omega arith) in
      let r = row_of t.rows found.0 in
      let both = (and-eq-true_iff (live r) (token 1 t.rows r.turn.0)).0 found.1 in
      (found.0, both.0, omega (arith, ltb-true (ahead t.rows r.turn.0) 1 both.1))

-- ---- What a row's soundness depends on

-- in two such tables a row is as sound in one as in the other, if its turn looks on alike rows
pub row_alike :
    (t u : Table) (r : Row) → SameNumbers t u → Alike t.rows u.rows r.turn.0 → sound_row t r ≡ sound_row u r
row_alike t u r numbers a =
    cc (numbers.tokens, numbers.resources, numbers.time, numbers.last, a.same_ahead, a.same_way r.held, a.same_way r.asked)

-- a test that only earlier rows pass says the same of a row as of what is seen of it
seen_test :
    (f : Row → Bool) (n : ℕ) → f idle ≡ false → ((r : Row) → earlier n r ≡ false → f r ≡ false) → (r : Row) →
    f (seen n r) ≡ f r
seen_test f n out later r = go (earlier n r) refl
  where
    go : (b : Bool) → earlier n r ≡ b → f (cond b r idle) ≡ f r
    go true e = refl
    go false e = out ∙ sym (later r e)

-- rows that are the same below turn n look alike from it
pub below_alike :
    (rows rows' : List Row) (n : ℕ) → ((k : ℕ) → seen n (row_of rows k) ≡ seen n (row_of rows' k)) → Alike rows rows' n
unfolding ahead in_way
below_alike rows rows' n same = record {
  same_ahead = tested (earlier n) refl (λ r e. e);
  same_way = λ x. tested (claims n x) refl (λ r e. ap (λ (b : Bool). b && meets r.declared x) e);
}
  where
    tested : (f : Row → Bool) → f idle ≡ false → ((r : Row) → earlier n r ≡ false → f r ≡ false) → count f rows ≡ count f rows'
    tested f out later =
        count_same f idle out rows rows'
        (λ k. sym (seen_test f n out later (row_of rows k)) ∙ ap f (same k) ∙ seen_test f n out later (row_of rows' k))

-- so whether a row is sound depends, besides these numbers, only on the live rows of lower turn
pub row_depends :
    (t u : Table) (r : Row) → SameNumbers t u → ((k : ℕ) → seen r.turn.0 (row_in t k) ≡ seen r.turn.0 (row_in u k)) →
    sound_row t r ≡ sound_row u r
row_depends t u r numbers same = row_alike t u r numbers (below_alike t.rows u.rows r.turn.0 same)
