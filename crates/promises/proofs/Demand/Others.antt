-- Who enters a request's history and who does not: those in its way, later requests, refused events.
use Rattle.std.specs.Prelude.{◌&&◌, ◌+◌, ◌-◌, ◌<◌, ◌∷◌, ◌≡◌, ◌≤◌}
use Rattle.promises.specs.Prelude.{Bool, List, Row, Table, [], ◌∙◌, accepted, ahead, and_left, and-not_self, ap, ap₂, arith, bit, cond, count, course, eqb, false, gone, gone_none, idle, in_way_ahead, in_way, jobs, live, lt-ltb, ltb-true, next, not, refl, row_in, run, sym, token, true, true≢false, waiting, wakes, zero-add, ℕ}
use Rattle.event.specs.declared.events.Event.{Event}
use Rattle.promises.specs.Demand.Statement.{Beside, Unmoved}
use Rattle.promises.specs.History.Words.{Along, Bears, heeded, heeded_by, ours, taken, tally_of}
use Rattle.promises.proofs.History.Events.{next_either}
use Rattle.kept.specs.Changes.{ahead_accepted, changes, leaves_by_own, lower_ahead, lower_way, way_accepted}
use Rattle.kept.specs.Words.{Accepts, Alike, ByOpening}
use Rattle.promises.proofs.History.Row.{row_after_lem, swept_alike, swept_rests}
use Rattle.promises.proofs.History.Woken.{listed_after}
use Rattle.kept.specs.Accepted.{was_sound}
use Rattle.kept.specs.Rows.{waiting_alike}

-- ---- Those in the way stand before it

pub way_bounded : (T : ℕ) (rows : List Row) (n s : ℕ) → token T rows n ≡ true → in_way rows n s ≤ T - 1
way_bounded T rows n s has = omega (arith, in_way_ahead rows n s, ltb-true (ahead rows n) T has)

-- ---- Later requests

-- of those who pass a test that fails of every higher turn than n, none leaves by an event beside those up to n
beside_stays :
    {f : Row → Bool} (opening : ByOpening f) (n : ℕ) (t : Table) (e : Event) → Accepts jobs t e → Beside n t e →
    ((r : Row) → n < r.turn.0 → f r ≡ false) → gone f t.rows (accepted t e).rows ≡ 0
beside_stays {f} opening n t e ok aside late =
    gone_none idle f t.rows (accepted t e).rows (λ k. stays k _ refl)
  where
    stays : (k : ℕ) (b : Bool) → (f (row_in t k) && not (f (row_in (accepted t e) k))) ≡ b → b ≡ false
    stays k true gone =
        let own = leaves_by_own t e k opening (changes jobs t e ok k) gone in
        let above : ¬ ((row_in t k).turn.0 ≤ n) = λ low.
        true≢false (sym own.1 ∙ aside k (lt-ltb 0 (row_in t k).turn.0 own.2.alive) low) in
        sym (and_left (f (row_in t k)) (not (f (row_in (accepted t e) k))) gone) ∙ late (row_in t k) (omega arith)
    stays k false gone = refl

module _ {T n : ℕ} (t : Table) (along : Along T n t) (e : Event) (aside : Beside n t e) where
  abbrev turn : ℕ → ℕ
  turn i = (row_in t i).turn.0

  lower : (k : ℕ) → k ≤ n → Along T k t
  lower k low = record { wide = along.wide; tokens = along.tokens; given = omega (arith, along.given) }

  module _ (ok : Accepts jobs t e) where
    abbrev after : Table
    after = accepted t e

    -- from a turn up to n the rows after look as those before
    alike_beside : (k : ℕ) → k ≤ n → Alike t.rows after.rows k
    alike_beside k low =
        let given : k ≤ t.last.0 = omega (arith, along.given) in
        record {
          same_ahead =
              let stays = beside_stays (lower_ahead k).opening n t e ok aside
              (λ r late. (lower_ahead k).late_fails r (omega arith)) in
              omega (arith, ahead_accepted jobs t e ok k given);
          same_way = λ x.
              let stays = beside_stays (lower_way k x).opening n t e ok aside
              (λ r late. (lower_way k x).late_fails r (omega arith)) in
              omega (arith, way_accepted jobs t e ok k given x);
        }

    module _ (i : ℕ) (lives : live (row_in t i) ≡ true) (low : turn i ≤ n) where
      some : 0 < turn i
      some = ltb-true 0 (turn i) lives

      bears : Bears T (turn i) i t
      bears = record { along = lower (turn i) low; some = some; turn = refl }

      row_beside : row_in after i ≡ row_in t i
      row_beside =
          row_after_lem bears e ok (aside i lives low)
          ∙ sym (swept_alike t.tokens (row_in t i) (alike_beside (turn i) low))
          ∙ swept_rests t (row_in t i) some (((was_sound jobs t e ok).rows i).lives some)

      listed_beside : count (eqb i) (wakes t e) ≡ 0
      listed_beside =
          let still : waiting T after.rows (row_in after i) ≡ waiting T t.rows (row_in t i) =
          ap (waiting T after.rows) row_beside ∙ sym (waiting_alike T (row_in t i) (alike_beside (turn i) low)) in
          listed_after bears e ok (aside i lives low)
          ∙ ap (λ (b : Bool). bit (waiting T t.rows (row_in t i) && not b)) still
          ∙ ap bit (and-not_self (waiting T t.rows (row_in t i)))

  pub unmoved : Unmoved ours n t e
  unfolding count
  unmoved =
      record {
        row = λ i lives low. next_either t e (λ b u. row_in u i ≡ row_in t i) (λ ok. row_beside ok i lives low) refl;
        unlisted = λ i lives low.
            next_either t e (λ b u. count (eqb i) (cond b (wakes t e) []) ≡ 0) (λ ok. listed_beside ok i lives low) refl;
        before = λ k low.
            next_either t e (λ b u. ahead u.rows k ≡ ahead t.rows k) (λ ok. sym (alike_beside ok k low).same_ahead) refl;
        way = λ k x low.
            next_either t e (λ b u. in_way u.rows k x ≡ in_way t.rows k x) (λ ok. sym ((alike_beside ok k low).same_way x)) refl;
      }

-- ---- Refused events

-- the accepted events alone lead to the same table
pub run_heeded : (t : Table) (es : List Event) → run t (heeded t es) ≡ run t es
unfolding course heeded_by
run_heeded t [] = refl
run_heeded t (e ∷ es) =
    let rest = heeded (next jobs t e) es in
    let same = run_heeded (next jobs t e) es in
    next_either t e (λ b u. u ≡ next jobs t e → run t (cond b (e ∷ rest) rest) ≡ run (next jobs t e) es)
    (λ ok q. same)
    (λ q. ap (λ (u : Table). run u rest) q ∙ same)
    refl

-- and whatever is counted of accepted events, they count as much
pub tally_heeded :
    (number : Table → Event → ℕ) (t : Table) (es : List Event) → tally_of ours number t (heeded t es) ≡ tally_of ours number t es
unfolding tally_of heeded_by
tally_heeded number t [] = refl
tally_heeded number t (e ∷ es) =
    let rest = heeded (next jobs t e) es in
    let same = tally_heeded number (next jobs t e) es in
    next_either t e
    (λ b u.
    taken t e ≡ b → u ≡ next jobs t e →
    tally_of ours number t (cond b (e ∷ rest) rest) ≡ cond b (number t e) 0 + tally_of ours number (next jobs t e) es)
    (λ ok h q. ap₂ ◌+◌ (ap (λ (b : Bool). cond b (number t e) 0) h) same)
    (λ h q. ap (λ (u : Table). tally_of ours number u rest) q ∙ same ∙ sym (zero-add (tally_of ours number (next jobs t e) es)))
    refl
    refl
