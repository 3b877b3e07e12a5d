-- What Q3 decides on a set, at an ask and in a sweep: the whole of it or nothing.
use Rattle.std.specs.Prelude.{◌≡◌}
use Rattle.kept.specs.Prelude.{Bool, List, Row, Table, ◌∙◌, ap, arith, asked_row, blocked, cond, either, false, granted_row, in_way, le-ltb, le_of_eq, le-zero, lt-ltb, ltb-false, ltb-true, refl, rested_row, swept_row, sym, true, true≢false, union, union_empty, waiting, ℕ}
use Rattle.kept.specs.Words.{Decided, grants, waits, Asked, Swept}

-- ---- The decision

-- so both sets go by the one test
pub decided_sets :
    {rows : List Row} {s held asked : ℕ} {r : Row} → Decided rows s r held asked →
    (held ≡ cond (blocked rows r.turn.0 s) r.held (union r.held s))
    × (asked ≡ cond (blocked rows r.turn.0 s) s 0)
decided_sets {rows} {s} {r = r} (grants way h e) = rw (le-ltb 0 (in_way rows r.turn.0 s) (le_of_eq way)) (h, e)
decided_sets {rows} {s} {r = r} (waits way h e) = rw (lt-ltb 0 (in_way rows r.turn.0 s) way) (h, e)

-- ---- The ask

pub asks : (t : Table) (time s : ℕ) (r : Row) → r.asked ≡ 0 → Asked t time s r (asked_row t r time s)
asks t time s r nothing = go (blocked t.rows r.turn.0 s) refl
  where
    go : (b : Bool) → blocked t.rows r.turn.0 s ≡ b → Asked t time s r (asked_row t r time s)
    go true e =
        let way = ltb-true 0 (in_way t.rows r.turn.0 s) e in
        rw e
        (record {
          turn = refl;
          declared = refl;
          decided = waits way refl refl;
          waits_now = λ _. refl;
          goes_on = λ z. absurd (omega arith);
        })
    go false e =
        let way = le-zero (ltb-false 0 (in_way t.rows r.turn.0 s) e) in
        rw e
        (record {
          turn = refl;
          declared = refl;
          decided = grants way refl nothing;
          waits_now = λ h. absurd (omega arith);
          goes_on = λ _. refl;
        })

-- ---- The sweep

module _ (T : ℕ) (rows : List Row) (r : Row) where
  rest :
      (g : Row) → g.turn.0 ≡ r.turn.0 → g.declared ≡ r.declared → g.since ≡ r.since →
      Decided rows r.asked r g.held g.asked → Swept T rows r (rested_row T rows g)
  rest g turn declared since d = go (waiting T rows g) refl
    where
      go : (b : Bool) → waiting T rows g ≡ b → Swept T rows r (rested_row T rows g)
      go true e =
          rw e
          (record {
            turn = turn;
            declared = declared;
            decided = d;
            since = λ _. since;
            rests = λ f. absurd (true≢false (sym e ∙ f));
          })
      go false e =
          rw e
          (record {
            turn = turn;
            declared = declared;
            decided = d;
            since = λ f. absurd (true≢false (sym f ∙ e));
            rests = λ _. refl;
          })

  pub sweeps : Swept T rows r (swept_row T rows r)
  sweeps = go (blocked rows r.turn.0 r.asked) refl
    where
      go : (b : Bool) → blocked rows r.turn.0 r.asked ≡ b → Swept T rows r (swept_row T rows r)
      go true e = rw e (rest r refl refl refl (waits (ltb-true 0 (in_way rows r.turn.0 r.asked) e) refl refl))
      go false e = rw e (rest _ refl refl refl (grants (le-zero (ltb-false 0 (in_way rows r.turn.0 r.asked) e)) refl refl))

  -- a row that asks nothing and has no waiting time is left as it is
  pub nothing_swept : r.asked ≡ 0 → r.since ≡ 0 → swept_row T rows r ≡ r
  nothing_swept none rests = ap (rested_row T rows) granted ∙ either (λ x. x) (waiting T rows r) r _ rested
    where
      granted : granted_row rows r ≡ r
      granted =
          either (λ x. x) (blocked rows r.turn.0 r.asked) r _
          (λ i.
          record {
            turn = r.turn;
            declared = r.declared;
            held = (ap (union r.held) none ∙ union_empty r.held) i;
            asked = sym none i;
            since = r.since;
          })

      rested : ◌≡◌ {A = Row} (record { turn = r.turn; declared = r.declared; held = r.held; asked = r.asked; since = 0 }) r
      rested = λ i. record { turn = r.turn; declared = r.declared; held = r.held; asked = r.asked; since = sym rests i }
