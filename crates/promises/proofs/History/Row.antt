-- What an accepted event does to the row of a job that it does not name: the sweep, by the rows after it, and no more.
use Rattle.std.specs.Prelude.{◌&&◌, ◌<◌, ◌||◌, ◌≡◌}
use Rattle.promises.specs.Prelude.{Bool, List, Row, Table, accepted, ap, ap₂, arith, blocked, cond, false, granted_keeps, granted_row, in_way, jobs, live, lt-ltb, ltb, ltb-false, names, not, refl, rested_row, row_in, subst, swept_keeps, swept_row, sym, token, true, true≢false, union, union_empty, waiting, waiting_reads, ℕ, ◌∙◌}
use Rattle.event.specs.declared.events.Event.{Event}
use Rattle.promises.specs.History.Words.{Bears}
use Rattle.promises.proofs.History.Count.{along_accepted}
use Rattle.kept.specs.Words.{Accepts, Decided, Alike, Fate, acted, same, stayed}
use Rattle.kept.specs.Accepted.{was_sound}
use Rattle.kept.specs.Decisions.{decided_sets, sweeps}
use Rattle.kept.specs.Rows.{waiting_alike}
use Rattle.kept.specs.Woken.{fate}
use Rattle.kept.specs.Sound.Words.{LiveRow}

-- what waiting is made of
pub waiting_is :
    (T : ℕ) (rows : List Row) (r : Row) {a b c : Bool} → live r ≡ a → token T rows r.turn.0 ≡ b → ltb 0 r.asked ≡ c →
    waiting T rows r ≡ (a && (not b || c))
waiting_is T rows r lives has asks = λ i. lives i && (not (has i) || asks i)

-- ---- The sweep of one row

-- r with these held and asked sets
abbrev holding : Row → ℕ → ℕ → Row
holding r held asked = record { turn = r.turn; declared = r.declared; held = held; asked = asked; since = r.since }

-- r with this waiting time
abbrev since_when : Row → ℕ → Row
since_when r since = record { turn = r.turn; declared = r.declared; held = r.held; asked = r.asked; since = since }

-- a sweep over alike rows leaves the same
pub swept_alike : {rows rows' : List Row} (T : ℕ) (r : Row) → Alike rows rows' r.turn.0 → swept_row T rows r ≡ swept_row T rows' r
swept_alike {rows} {rows'} T r a =
    let g = granted_row rows r in
    let turn : g.turn.0 ≡ r.turn.0 = ap (λ (x : Row). x.turn.0) (granted_keeps rows r) in
    let waits : waiting T rows g ≡ waiting T rows' g = waiting_alike T g (subst (Alike rows rows') (sym turn) a) in
    (λ i. cond (waits i) g (since_when g 0))
    ∙ ap (rested_row T rows') (λ i. cond (ltb 0 (a.same_way r.asked i)) r (holding r (union r.held r.asked) 0))

-- a live row of a sound table is as the sweep leaves it
pub swept_rests : (t : Table) (r : Row) → 0 < r.turn.0 → LiveRow t r → swept_row t.tokens t.rows r ≡ r
swept_rests t r alive p =
    ap (rested_row t.tokens t.rows) (grant (blocked t.rows r.turn.0 r.asked) refl)
    ∙ rest (waiting t.tokens t.rows r) refl
  where
    grant :
        (b : Bool) → blocked t.rows r.turn.0 r.asked ≡ b →
        cond b r (holding r (union r.held r.asked) 0) ≡ r
    grant true e = refl
    grant false e =
        let way = ltb-false 0 (in_way t.rows r.turn.0 r.asked) e in
        let free : ¬ (0 < r.asked) = λ some. omega (arith, p.asked_blocked_lem some) in
        let none : r.asked ≡ 0 = omega arith in
        ap₂ (holding r) (ap (union r.held) none ∙ union_empty r.held) (sym none)

    rest : (b : Bool) → waiting t.tokens t.rows r ≡ b → cond b r (since_when r 0) ≡ r
    rest true e = refl
    rest false e =
        let still = (waiting_reads t.tokens t.rows r alive).fails.0 e in
        ap (since_when r) (sym (p.rests still.0 still.1))

-- ---- The row of a request

module _ {T n j : ℕ} {t : Table} (b : Bears T n j t) where
  pub alive : 0 < (row_in t j).turn.0
  alive = omega (arith, b.some, b.turn)

  pub lives : live (row_in t j) ≡ true
  lives = lt-ltb 0 (row_in t j).turn.0 alive

  module _ (e : Event) (ok : Accepts jobs t e) (u : names j e ≡ false) where
    abbrev after : List Row
    after = (accepted t e).rows

    -- the row after an event is the row before it, swept by the rows after it
    pub row_after_lem : row_in (accepted t e) j ≡ swept_row t.tokens after (row_in t j)
    row_after_lem = go (fate jobs t e ok j)
      where
        go : Fate t e j → row_in (accepted t e) j ≡ swept_row t.tokens after (row_in t j)
        go (same row alike) =
            row
            ∙ sym (swept_rests t (row_in t j) alive (((was_sound jobs t e ok).rows j).lives alive))
            ∙ swept_alike t.tokens (row_in t j) alike
        go (acted named _) = absurd (true≢false (sym named ∙ u))
        go (stayed _ rows row alike) = row ∙ swept_alike t.tokens (row_in t j) alike

    pub bears_after : Bears T n j (accepted t e)
    bears_after =
        record {
          along = along_accepted b.along e ok;
          some = b.some;
          turn = ap (λ (r : Row). r.turn.0) row_after_lem
              ∙ ap (λ (r : Row). r.turn.0) (swept_keeps t.tokens after (row_in t j)) ∙ b.turn;
        }

    -- the whole asked set stays asked where it is blocked after the event, else it is held
    pub sets_after :
        ((row_in (accepted t e) j).held
        ≡ cond (blocked after n (row_in t j).asked) (row_in t j).held (union (row_in t j).held (row_in t j).asked))
        × ((row_in (accepted t e) j).asked ≡ cond (blocked after n (row_in t j).asked) (row_in t j).asked 0)
    sets_after =
        rw (← b.turn)
        (decided_sets
        (subst (λ (r : Row). Decided after (row_in t j).asked (row_in t j) r.held r.asked) (sym row_after_lem)
        (sweeps t.tokens after (row_in t j)).decided))
