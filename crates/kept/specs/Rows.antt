-- When a row stays sound, though the table around it moves on.
use Rattle.std.specs.Prelude.{◌&&◌, ◌<◌, ◌||◌, ◌≡◌, ◌≤◌}
use Rattle.kept.specs.Prelude.{Bool, List, Row, Table, ◌∙◌, ahead, ahead_set, ahead_settled, ap, arith, below, bit, claims, dec_le, earlier, false, idle, in_way_inside, in_way_set, in_way_settled, in_way_union, inside, inside_empty, inside_le, inside_union, le_of_eq, length, live, lt-ltb, ltb, ltb-true, meets, meets_empty, meets_inside, not, not_earlier, refl, row_of, set, set_out, settled, sym, true, union_self, waiting, ℕ}
use Rattle.kept.specs.Words.{Decided, grants, waits, Alike, NoEarlier, Clearer}
use Rattle.kept.specs.Sound.Words.{LiveRow}

pub alike_self : {rows : List Row} {n : ℕ} → Alike rows rows n
alike_self = record { same_ahead = refl; same_way = λ x. refl }

-- seen from turn n, the rows look alike after one is set at j, if it keeps turn and declared set
pub alike_kept :
    (rows : List Row) (j : ℕ) (r : Row) (n : ℕ) → j < length rows → r.turn.0 ≡ (row_of rows j).turn.0 →
    r.declared ≡ (row_of rows j).declared → Alike rows (set rows j r) n
alike_kept rows j r n h turn declared = record {
  same_ahead = omega (arith, ahead_set rows j r h n, ap (λ (m : ℕ). bit (ltb 0 m && ltb m n)) turn);
  same_way = λ x. omega (arith, in_way_set rows j r h n x, same x);
}
  where
    same : (x : ℕ) → bit (claims n x r) ≡ bit (claims n x (row_of rows j))
    same x = λ i. bit (ltb 0 (turn i) && ltb (turn i) n && meets (declared i) x)

-- or if it was idle, or no row, and now has a turn no lower than n
pub alike_opened : (rows : List Row) (j : ℕ) (r : Row) (n : ℕ) → row_of rows j ≡ idle → n ≤ r.turn.0 → Alike rows (set rows j r) n
alike_opened rows j r n was late = go (dec_le (length rows) j)
  where
    later : earlier n r ≡ false
    later = not_earlier n r late

    go : Dec (length rows ≤ j) → Alike rows (set rows j r) n
    go (yes out) = rw (set_out rows j r out) alike_self
    go (no h) = record {
      same_ahead = omega (arith, ahead_set rows j r (omega arith) n, ap bit later, ap (λ (r : Row). bit (earlier n r)) was);
      same_way = λ x.
          let none = ap (λ (r : Row). bit (claims n x r)) was in
          let none' = ap (λ (b : Bool). bit (b && meets r.declared x)) later in
          omega (arith, in_way_set rows j r (omega arith) n x);
    }

-- swept rows look alike from any turn
pub alike_settled : (T : ℕ) (rows : List Row) (n : ℕ) → Alike rows (settled T rows) n
alike_settled T rows n = record { same_ahead = sym (ahead_settled T rows n); same_way = λ x. sym (in_way_settled T rows n x) }

-- who waits is the same on alike rows
pub waiting_alike : {rows rows' : List Row} (T : ℕ) (r : Row) → Alike rows rows' r.turn.0 → waiting T rows r ≡ waiting T rows' r
waiting_alike T r a = ap (λ (n : ℕ). live r && (not (ltb n T) || ltb 0 r.asked)) a.same_ahead

-- what Q3 decides on alike rows is the same
pub decided_alike :
    {rows rows' : List Row} {s held asked : ℕ} {r : Row} → Alike rows rows' r.turn.0 → Decided rows s r held asked →
    Decided rows' s r held asked
decided_alike {s} a (grants way h e) = grants (omega (arith, a.same_way s, way)) h e
decided_alike {s} a (waits way h e) = waits (omega (arith, a.same_way s, way)) h e

-- a row that is left as it is stays sound where its turn looks on alike rows
pub carried : {t u : Table} {r : Row} → NoEarlier t u → Alike t.rows u.rows r.turn.0 → LiveRow t r → LiveRow u r
carried {t} {u} {r} o a p = record {
  given = omega arith;
  declares = λ h. p.declares (omega arith);
  in_range = rw o.resources at p.in_range;
  held_declared_lem = p.held_declared_lem;
  asked_declared_lem = p.asked_declared_lem;
  apart = p.apart;
  holds_by_token = λ h. p.holds_by_token (omega arith);
  asks_by_token = λ h. p.asks_by_token (omega arith);
  held_free_lem = sym (a.same_way r.held) ∙ p.held_free_lem;
  asked_blocked_lem = λ h. omega (arith, a.same_way r.asked, p.asked_blocked_lem h);
  waits_since = omega arith;
  rests = λ h. p.rests (omega arith);
}

pub alike_clearer : {rows rows' : List Row} {n : ℕ} → Alike rows rows' n → Clearer rows rows' n
alike_clearer a = record { less_ahead = le_of_eq (sym a.same_ahead); less_way = λ x. le_of_eq (sym (a.same_way x)) }

-- whoever has no token now, with no more before it than there were, had none
late_before :
    {t u : Table} {n m : ℕ} → NoEarlier t u → Clearer t.rows u.rows n → m ≡ n → u.tokens ≤ ahead u.rows m →
    t.tokens ≤ ahead t.rows n
late_before {u = u} {n} o c same late =
    let late' : u.tokens ≤ ahead u.rows n = rw same at late in
    omega (arith, o.tokens, c.less_ahead)

-- what Q3 decides on a set s leaves a row sound, if s is declared, apart from what is held, and empty without a token
pub decided :
    {t u : Table} {r r' : Row} {s : ℕ} → NoEarlier t u → Clearer t.rows u.rows r.turn.0 → LiveRow t r →
    r'.turn.0 ≡ r.turn.0 → r'.declared ≡ r.declared → inside s r.declared ≡ true → meets r.held s ≡ false →
    (u.tokens ≤ ahead u.rows r.turn.0 → s ≡ 0) → r'.since ≤ u.time →
    (ahead u.rows r'.turn.0 < u.tokens → r'.asked ≡ 0 → r'.since ≡ 0) →
    Decided u.rows s r r'.held r'.asked → LiveRow u r'
decided {u} {r} {s} o c p turn declared s-declared s-apart by_token in_time rests (grants way held asked) = record {
  given = omega arith;
  declares = λ h. omega (arith, declared, p.declares (late_before o c turn h));
  in_range = rw (declared, ← o.resources) p.in_range;
  held_declared_lem = rw (declared, held) ((inside_union r.held s r.declared).1 (p.held_declared_lem, s-declared));
  asked_declared_lem = rw asked (inside_empty _);
  apart = rw asked (meets_empty _);
  holds_by_token = λ h. rw (held, p.holds_by_token (late_before o c turn h), by_token (rw turn at h)) (union_self 0);
  asks_by_token = λ h. asked;
  held_free_lem =
      rw (turn, held)
      (in_way_union u.rows r.turn.0 r.held s (omega (arith, c.less_way r.held, p.held_free_lem)) way);
  asked_blocked_lem = λ h. absurd (omega arith);
  waits_since = in_time;
  rests = rests;
}
decided {u} {r} {s} o c p turn declared s-declared s-apart by_token in_time rests (waits way held asked) = record {
  given = omega arith;
  declares = λ h. omega (arith, declared, p.declares (late_before o c turn h));
  in_range = rw (declared, ← o.resources) p.in_range;
  held_declared_lem = rw (declared, held) p.held_declared_lem;
  asked_declared_lem = rw (declared, asked) s-declared;
  apart = rw (held, asked) s-apart;
  holds_by_token = λ h. held ∙ p.holds_by_token (late_before o c turn h);
  asks_by_token = λ h. asked ∙ by_token (rw turn at h);
  held_free_lem = rw (turn, held) (omega (arith, c.less_way r.held, p.held_free_lem));
  asked_blocked_lem = λ h. rw (turn, asked) way;
  waits_since = in_time;
  rests = rests;
}

-- a row stays sound that declares a part of what it did, something still without a token, and holds a part of what it held, if
-- what it holds and asks is declared
pub lessened :
    {t : Table} {r : Row} (d h : ℕ) → LiveRow t r → (t.tokens ≤ ahead t.rows r.turn.0 → 0 < d) →
    inside d r.declared ≡ true → inside h r.held ≡ true → inside h d ≡ true → inside r.asked d ≡ true →
    LiveRow t (record { turn = r.turn; declared = d; held = h; asked = r.asked; since = r.since })
unfolding below
lessened {t} {r} d h p some less part held asked = record {
  given = p.given;
  declares = some;
  in_range = lt-ltb d _ (omega (arith, inside_le d r.declared less, ltb-true r.declared _ p.in_range));
  held_declared_lem = held;
  asked_declared_lem = asked;
  apart = meets_inside h r.held r.asked part p.apart;
  holds_by_token = λ late. omega (arith, inside_le h r.held part, p.holds_by_token late);
  asks_by_token = p.asks_by_token;
  held_free_lem = in_way_inside t.rows r.turn.0 h r.held part p.held_free_lem;
  asked_blocked_lem = p.asked_blocked_lem;
  waits_since = p.waits_since;
  rests = p.rests;
}
