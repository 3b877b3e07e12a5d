-- What the rows of turns up to n decide: who stands before, what is in the way, who waits, what a sweep leaves.
use Rattle.std.specs.Prelude.{◌+◌, ◌∷◌, ◌≡◌, ◌≤◌}
use Rattle.promises.specs.Prelude.{Bool, List, List·getD-map, Row, [], ap, arith, cond, earlier, earlier_turn, false, fun_ext, idle, map, map-map, refl, row_of, set, settled, suc, swept_idle, swept_keeps, swept_row, sym, true, true≢false, turn_earlier, waiting, zero, ℕ, ◌∙◌}
use Rattle.promises.proofs.History.Row.{swept_alike}
use Rattle.kept.specs.Words.{Alike}
use Rattle.kept.specs.Rows.{waiting_alike}
use Rattle.kept.specs.Sound.Facts.{below_alike}
use Rattle.kept.specs.Sound.Words.{seen}
use Rattle.promises.specs.UpTo.Statement.{up_to}

-- ---- A row as it is seen

module _ (m : ℕ) where
  -- an earlier row is seen as it is, any other as idle
  pub seen_in_lem : (r : Row) → earlier m r ≡ true → seen m r ≡ r
  seen_in_lem r e = ap (λ (b : Bool). cond b r idle) e

  pub seen_out : (r : Row) → earlier m r ≡ false → seen m r ≡ idle
  seen_out r e = ap (λ (b : Bool). cond b r idle) e

  -- what is seen of a row is as early as the row
  pub earlier_seen : (r : Row) → earlier m (seen m r) ≡ earlier m r
  earlier_seen r = go (earlier m r) refl
    where
      go : (b : Bool) → earlier m r ≡ b → earlier m (cond b r idle) ≡ b
      go true e = e
      go false e = refl

  -- what a lower turn sees of it is what it sees of the row
  seen_lower : (k : ℕ) → k ≤ m → (r : Row) → seen k r ≡ seen k (seen m r)
  seen_lower k low r = go (earlier m r) refl
    where
      go : (b : Bool) → earlier m r ≡ b → seen k r ≡ seen k (cond b r idle)
      go true e = refl
      go false e = late (earlier k r) refl
        where
          late : (b : Bool) → earlier k r ≡ b → cond b r idle ≡ idle
          late true q =
              let p = earlier_turn k r q in
              absurd (true≢false (sym (turn_earlier m r p.0 (omega arith)) ∙ e))
          late false q = refl

-- ---- Rows up to n

module _ (n : ℕ) (rows : List Row) where
  pub row_up_to : (j : ℕ) → row_of (up_to n rows) j ≡ seen (n + 1) (row_of rows j)
  row_up_to j = List·getD-map (seen (n + 1)) rows j idle

  -- they look alike from any turn up to n
  pub alike_up_to : (k : ℕ) → k ≤ n + 1 → Alike rows (up_to n rows) k
  alike_up_to k low =
      below_alike rows (up_to n rows) k (λ j. seen_lower (n + 1) k low (row_of rows j) ∙ ap (seen k) (sym (row_up_to j)))

  -- and so do all turns that are among them
  pub alike_among : (r : Row) → earlier (n + 1) r ≡ true → Alike rows (up_to n rows) r.turn.0
  alike_among r e = let p = earlier_turn (n + 1) r e in alike_up_to r.turn.0 (omega arith)

  -- who waits among them
  pub waiting_up_to :
      (T j : ℕ) → earlier (n + 1) (row_of rows j) ≡ true →
      waiting T rows (row_of rows j) ≡ waiting T (up_to n rows) (row_of (up_to n rows) j)
  waiting_up_to T j e =
      waiting_alike T (row_of rows j) (alike_among (row_of rows j) e)
      ∙ ap (waiting T (up_to n rows)) (sym (row_up_to j ∙ seen_in_lem (n + 1) (row_of rows j) e))

  -- a sweep leaves them what a sweep of them alone does
  pub settled_up_to : (T : ℕ) → up_to n (settled T rows) ≡ settled T (up_to n rows)
  unfolding settled
  settled_up_to T =
      map-map (seen (n + 1)) (swept_row T rows) rows
      ∙ ap (λ (f : Row → Row). map f rows) (fun_ext each)
      ∙ sym (map-map (swept_row T (up_to n rows)) (seen (n + 1)) rows)
    where
      each : (r : Row) → seen (n + 1) (swept_row T rows r) ≡ swept_row T (up_to n rows) (seen (n + 1) r)
      each r = go (earlier (n + 1) r) refl
        where
          same : earlier (n + 1) (swept_row T rows r) ≡ earlier (n + 1) r
          same = ap (earlier (n + 1)) (swept_keeps T rows r)

          go : (b : Bool) → earlier (n + 1) r ≡ b → seen (n + 1) (swept_row T rows r) ≡ swept_row T (up_to n rows) (seen (n + 1) r)
          go true e =
              seen_in_lem (n + 1) (swept_row T rows r) (same ∙ e)
              ∙ swept_alike T r (alike_among r e)
              ∙ ap (swept_row T (up_to n rows)) (sym (seen_in_lem (n + 1) r e))
          go false e =
              seen_out (n + 1) (swept_row T rows r) (same ∙ e)
              ∙ sym (swept_idle T (up_to n rows))
              ∙ ap (swept_row T (up_to n rows)) (sym (seen_out (n + 1) r e))

-- a row set is a row set
pub set_up_to : (n : ℕ) (rows : List Row) (j : ℕ) (r : Row) → up_to n (set rows j r) ≡ set (up_to n rows) j (seen (n + 1) r)
set_up_to n rows j r = go rows j
  where
    go : (rows : List Row) (j : ℕ) → up_to n (set rows j r) ≡ set (up_to n rows) j (seen (n + 1) r)
    go [] j = refl
    go (x ∷ rows) zero = refl
    go (x ∷ rows) (suc j) = ap (λ (l : List Row). seen (n + 1) x ∷ l) (go rows j)
