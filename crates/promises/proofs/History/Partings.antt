-- How many are in the way of a request, along a history: as many as there were, less those that parted from it.
use Rattle.std.specs.Prelude.{◌&&◌, ◌+◌, ◌<◌, ◌∷◌, ◌≡◌}
use Rattle.promises.specs.Prelude.{Ask, Beat, Bool, Complete, GiveUp, List, Open, Release, Row, Table, Tick, Turn, [], ◌∙◌, about, accepted, and-false, and_right, ap, arith, bit, claims, cond, count, count_sum, course, earlier, earlier_turn, eq-eqb, eqb, eqb-true, false, get_or-set_same, giving_up, idle, in_way_set, in_way_settled, in_way, jobs, live_within, meets, meets_comm, meets_without, next, not, not_earlier, not-true, refl, row_in, run, set, settled, subst, sym, true, turn_settled, without, without_apart, without_none, zero-add, ℕ}
use Rattle.event.specs.declared.events.Event.{Event}
use Rattle.promises.proofs.History.Events.{next_either}
use Rattle.promises.specs.History.Words.{Along, Parts, by_completion, by_give_up, by_own, given_up, given_up_by, in_its_way, parting_by, partings, parts_by_other, parts_by_own, taken, tally_of}
use Rattle.promises.proofs.History.Count.{along_next}
use Rattle.promises.proofs.History.Turn.{back_run, declared_after, declared_given_up, declared_run}
use Rattle.kept.specs.Accepted.{acts}
use Rattle.kept.specs.Changes.{alike_quiet, lower_way}
use Rattle.kept.specs.Words.{Accepts}

-- of those that pass two tests, each passes a narrower second one too, or parts
parts_or_stays :
    (a b c : Bool) → (c ≡ true → b ≡ true) → bit (a && b) ≡ bit (a && b && not c) + bit (a && c)
parts_or_stays true true true narrower = refl
parts_or_stays true true false narrower = refl
parts_or_stays true false true narrower = let z = narrower refl in absurd (omega (arith, ap bit z))
parts_or_stays true false false narrower = refl
parts_or_stays false b c narrower = refl

-- a request that shares nothing with another is not in its way
out_of_way : (t : Table) (j k : ℕ) → meets (row_in t k).declared (row_in t j).declared ≡ false → in_its_way t j (row_in t k) ≡ false
out_of_way t j k apart =
    let before = earlier (row_in t j).turn.0 (row_in t k) in
    ap (λ (b : Bool). before && b) apart ∙ and-false before

-- ---- By an accepted event

module _ {T : ℕ} (t : Table) (j : ℕ) (along : Along T (row_in t j).turn.0 t) (some : 0 < (row_in t j).turn.0) where
  abbrev n : ℕ
  n = (row_in t j).turn.0

  abbrev declared : ℕ
  declared = (row_in t j).declared

  -- those in the way after an event that writes row k and settles the rows
  way_written :
      (k : ℕ) (r : Row) → 0 < (row_in t k).turn.0 → (x : ℕ) →
      in_way (settled t.tokens (set t.rows k r)) n x + bit (claims n x (row_in t k)) ≡ in_way t.rows n x + bit (claims n x r)
  way_written k r alive x =
      ap (λ (w : ℕ). w + bit (claims n x (row_in t k))) (in_way_settled t.tokens (set t.rows k r) n x)
      ∙ in_way_set t.rows k r (live_within t.rows k alive) n x

  -- by an event that wakes nobody none parts
  way_quiet :
      (e : Event) → (about e).wakes ≡ false → given_up_by j e ≡ 0 → Accepts jobs t e → (row_in (accepted t e) j).turn.0 ≡ n →
      in_way (accepted t e).rows n (row_in (accepted t e) j).declared ≡ in_way t.rows n declared
  way_quiet e quiet nothing ok q =
      ap (in_way (accepted t e).rows n) (declared_after t along some j e ok q ∙ ap (without declared) nothing ∙ without_none declared)
      ∙ sym ((alike_quiet jobs t e ok n along.given quiet).same_way declared)

  -- those with whom the request shares nothing more by its own give up part from it
  own_parts : (s : ℕ) → in_way t.rows n declared ≡ count (parts_by_own t j s) t.rows + in_way t.rows n (without declared s)
  unfolding in_way
  own_parts s =
      count_sum (parts_by_own t j s) (claims n (without declared s)) (claims n declared)
      (λ r.
      parts_or_stays (earlier n r) (meets r.declared declared) (meets r.declared (without declared s))
      (λ m. meets_comm r.declared declared ∙ meets_without declared s r.declared (meets_comm (without declared s) r.declared ∙ m)))
      t.rows

  -- another that gives up s parts, or is in the way after as before
  other_parts :
      (s : ℕ) (r : Row) → bit (claims n declared r) ≡ bit (parts_by_other t j s r) + bit (claims n declared (giving_up r s))
  other_parts s r =
      parts_or_stays (earlier n r) (meets r.declared declared) (meets (without r.declared s) declared)
      (meets_without r.declared s declared)

  -- a request does not stand before itself, whatever it gives up
  own_turn : (k : ℕ) → k ≡ j → (x s : ℕ) → (bit (claims n x (row_in t k)) ≡ 0) × (bit (claims n x (giving_up (row_in t k) s)) ≡ 0)
  own_turn k own x s =
      let behind : earlier n (row_in t k) ≡ false = not_earlier n (row_in t k) (omega (arith, ap (λ (i : ℕ). (row_in t i).turn.0) own)) in (
        ap (λ (b : Bool). bit (b && meets (row_in t k).declared x)) behind,
        ap (λ (b : Bool). bit (b && meets (without (row_in t k).declared s) x)) behind,
      )

  way_given_up :
      (k : ℕ) (s : ℕ) → 0 < (row_in t k).turn.0 → (b : Bool) → eqb k j ≡ b →
      cond b (count (parts_by_own t j s) t.rows) (bit (parts_by_other t j s (row_in t k)))
      + in_way (settled t.tokens (set t.rows k (giving_up (row_in t k) s))) n (without declared (cond b s 0))
      ≡ in_way t.rows n declared
  way_given_up k s alive true own =
      let x = without declared s in
      let none = own_turn k (eqb-true k j own) x s in
      omega (arith, way_written k (giving_up (row_in t k) s) alive x, none.0, none.1, own_parts s)
  way_given_up k s alive false other =
      rw (without_none declared)
      (omega (arith, way_written k (giving_up (row_in t k) s) alive declared, other_parts s (row_in t k)))

  -- those in the way after an accepted event and those that parted by it are those in the way before
  way_after :
      (e : Event) → Accepts jobs t e → (row_in (accepted t e) j).turn.0 ≡ n →
      parting_by t j e + in_way (accepted t e).rows n (row_in (accepted t e) j).declared ≡ in_way t.rows n declared
  way_after (Beat tick) ok q = zero-add _ ∙ way_quiet (Beat tick) refl refl ok q
  way_after (Open k tick s) ok q = zero-add _ ∙ way_quiet (Open k tick s) refl refl ok q
  way_after (Ask k tick s) ok q = zero-add _ ∙ way_quiet (Ask k tick s) refl refl ok q
  way_after (Release k tick s) ok q = zero-add _ ∙ way_quiet (Release k tick s) refl refl ok q
  way_after (Complete k tick) ok q =
      rw (declared_after t along some j (Complete k tick) ok q, without_none declared)
      (omega (arith, way_written k idle (acts jobs t (Complete k tick) ok refl).alive declared))
  way_after (GiveUp k tick s) ok q =
      rw (declared_after t along some j (GiveUp k tick s) ok q)
      (way_given_up k s (acts jobs t (GiveUp k tick s) ok refl).alive (eqb k j) refl)

-- ---- Who has parted by an accepted event

module _ {T n : ℕ} (t : Table) (along : Along T n t) (some : 0 < n) (j k : ℕ) where
  abbrev mine : ℕ
  mine = (row_in t j).declared

  abbrev its : ℕ
  its = (row_in t k).declared

  -- after a give up the two share what is left of both
  out_by_give_up :
      (i : ℕ) (tick : Tick) (s : ℕ) → Accepts jobs t (GiveUp i tick s) →
      meets (without its (cond (eqb i k) s 0)) (without mine (cond (eqb i j) s 0)) ≡ false →
      in_its_way (accepted t (GiveUp i tick s)) j (row_in (accepted t (GiveUp i tick s)) k) ≡ false
  out_by_give_up i tick s ok apart =
      out_of_way (accepted t (GiveUp i tick s)) j k
      ((λ x. meets (declared_given_up t along some k i tick s ok x) (declared_given_up t along some j i tick s ok x)) ∙ apart)

  -- whoever parts by an accepted event is out of its way after it
  pub parted_then : {e : Event} → Parts t j k e → Accepts jobs t e → in_its_way (accepted t e) j (row_in (accepted t e) k) ≡ false
  parted_then (by_completion tick _) ok =
      let after = accepted t (Complete k tick) in
      let within = live_within t.rows k (acts jobs t (Complete k tick) ok refl).alive in
      (lower_way (row_in after j).turn.0 (row_in after j).declared).opening.idle_fails (row_in after k)
      (ap (λ (turn : Turn). turn.0) (turn_settled t.tokens (set t.rows k idle) k)
      ∙ ap (λ (r : Row). r.turn.0) (get_or-set_same t.rows k idle idle within))
  parted_then (by_give_up tick s parts) ok =
      let left = without its s in
      let apart = not-true (meets left mine) (and_right (in_its_way t j (row_in t k)) (not (meets left mine)) parts) in
      let lost = cond (eqb k j) s 0 in
      out_by_give_up k tick s ok
      (rw (eq-eqb k k refl)
      (ap (λ (d : ℕ). meets d (without mine lost)) (sym (without_none left)) ∙ without_apart left mine 0 lost apart))
  parted_then (by_own tick s parts) ok =
      let left = without mine s in
      let apart = not-true (meets its left) (and_right (in_its_way t j (row_in t k)) (not (meets its left)) parts) in
      let lost = cond (eqb j k) s 0 in
      out_by_give_up j tick s ok
      (rw (eq-eqb j j refl) (ap (meets (without its lost)) (sym (without_none left)) ∙ without_apart its left lost 0 apart))

-- ---- Over a whole sequence

module _ {T n : ℕ} where
  way_next :
      (t : Table) → Along T n t → 0 < n → (j : ℕ) → (row_in t j).turn.0 ≡ n → (e : Event) → (row_in (next jobs t e) j).turn.0 ≡ n →
      cond (taken t e) (parting_by t j e) 0 + in_way (next jobs t e).rows n (row_in (next jobs t e) j).declared
      ≡ in_way t.rows n (row_in t j).declared
  way_next t along some j turn e =
      next_either t e
      (λ b u.
      (row_in u j).turn.0 ≡ n →
      cond b (parting_by t j e) 0 + in_way u.rows n (row_in u j).declared ≡ in_way t.rows n (row_in t j).declared)
      (λ ok q.
      subst
      (λ (m : ℕ).
      parting_by t j e + in_way (accepted t e).rows m (row_in (accepted t e) j).declared ≡ in_way t.rows m (row_in t j).declared)
      turn
      (way_after t j (subst (λ (m : ℕ). Along T m t) (sym turn) along) (omega arith) e ok (q ∙ sym turn)))
      (λ q. zero-add _)

  -- those in the way at the end and those that parted since are those in the way at first
  pub parted_run :
      (t : Table) → Along T n t → 0 < n → (j : ℕ) (es : List Event) → (row_in (run t es) j).turn.0 ≡ n →
      partings j t es + in_way (run t es).rows n (row_in (run t es) j).declared ≡ in_way t.rows n (row_in t j).declared
  unfolding tally_of course
  parted_run t along some j [] q = zero-add _
  parted_run t along some j (e ∷ es) q =
      let then = back_run (next jobs t e) (along_next along e) some j es q in
      omega (
        arith,
        way_next t along some j (back_run t along some j (e ∷ es) q) e then,
        parted_run (next jobs t e) (along_next along e) some j es q,
      )

  -- an earlier request that is not in its way does not come into it
  pub stays_parted :
      (t : Table) → Along T n t → 0 < n → (j k : ℕ) (es : List Event) → (row_in (run t es) j).turn.0 ≡ n →
      earlier n (row_in t k) ≡ true → (row_in (run t es) k).turn.0 ≡ (row_in t k).turn.0 → in_its_way t j (row_in t k) ≡ false →
      in_its_way (run t es) j (row_in (run t es) k) ≡ false
  stays_parted t along some j k es q before same parted =
      let stands = earlier_turn n (row_in t k) before in
      let m = (row_in t k).turn.0 in
      let lower : Along T m t = record { wide = along.wide; tokens = along.tokens; given = omega (arith, along.given) } in
      let shared = meets (row_in t k).declared (row_in t j).declared in
      let apart : shared ≡ false =
      ap (λ (b : Bool). b && shared) (sym before)
      ∙ ap (λ (n : ℕ). earlier n (row_in t k) && shared) (sym (back_run t along some j es q))
      ∙ parted in
      out_of_way (run t es) j k
      ((λ i. meets (declared_run t lower stands.0 k es same i) (declared_run t along some j es q i))
      ∙ without_apart (row_in t k).declared (row_in t j).declared (given_up k t es) (given_up j t es) apart)
