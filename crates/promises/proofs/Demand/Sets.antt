-- The set that a request asks for: asked whole while an earlier-opened live request still declares a member, then held whole.
use Rattle.std.specs.Prelude.{◌&&◌, ◌<◌, ◌∷◌, ◌≡◌}
use Rattle.promises.specs.Prelude.{Ask, Bool, List, Row, Table, Tick, [], accepted, ahead, answer, ap, arith, bit, blocked, case, cond, count, course, eqb, eqb-false, false, fine, in_way, jobs, lt-ltb, ltb, ltb-true, names, next, not, refl, row_in, run, subst, sym, token, true, true≢false, union, waiting, wakes, ℕ, ◌∙◌}
use Rattle.event.specs.declared.events.Event.{Event}
use Rattle.arbiter.specs.Answers as Answers
use Rattle.promises.specs.Demand.Statement.{AskedSet, Has}
use Rattle.promises.specs.History.Words.{lists, Along, Bears, ours}
use Rattle.promises.proofs.History.Events.{next_either}
use Rattle.kept.specs.Changes.{ahead_accepted, alike_quiet}
use Rattle.promises.proofs.History.Count.{along_accepted, along_next, way_falls}
use Rattle.promises.proofs.History.Row.{bears_after, lives, sets_after, waiting_is}
use Rattle.promises.proofs.History.Woken.{listed_after, unnamed}
use Rattle.kept.specs.Words.{Accepts}
use Rattle.kept.specs.Accepted.{acts, answer_accepted, next_accepted, passed}
use Rattle.kept.specs.Decisions.{decided_sets}
use Rattle.kept.specs.Named.{asked}

-- ---- A request that waits for a set

-- a token once had is kept
token_stays :
    {T n : ℕ} (t : Table) → Along T n t → token T t.rows n ≡ true → (e : Event) → Accepts jobs t e →
    token T (accepted t e).rows n ≡ true
token_stays {T} {n} t along has e ok =
    lt-ltb (ahead (accepted t e).rows n) T (omega (arith, ahead_accepted jobs t e ok n along.given, ltb-true (ahead t.rows n) T has))

-- with a token, a request waits exactly while it asks
waits_asking :
    {T n j : ℕ} {t : Table} → Bears T n j t → token T t.rows n ≡ true → (b : Bool) (x : ℕ) → 0 < x →
    (row_in t j).asked ≡ cond b x 0 → waiting T t.rows (row_in t j) ≡ b
waits_asking {T} {n} {j} {t} bears has b x real asks =
    waiting_is T t.rows (row_in t j) (lives bears) (ap (token T t.rows) bears.turn ∙ has) (ap (ltb 0) asks ∙ some b)
  where
    some : (b : Bool) → ltb 0 (cond b x 0) ≡ b
    some true = lt-ltb 0 x real
    some false = refl

-- job j's request of turn n has its token, holds h and asks for x
record Waits (T j n x h : ℕ) (t : Table) : Type 0 where
  bears : Bears T n j t
  has : token T t.rows n ≡ true
  held : (row_in t j).held ≡ h
  asked : (row_in t j).asked ≡ x

module _ {T j n x h : ℕ} (real : 0 < x) {t : Table} (w : Waits T j n x h t) where
  waits : waiting T t.rows (row_in t j) ≡ true
  waits = waits_asking w.bears w.has true x real w.asked

  module _ (e : Event) (ok : Accepts jobs t e) where
    abbrev after : Table
    after = accepted t e

    -- its own events are refused
    own : names j e ≡ false
    own = unnamed w.bears waits e ok

    bears_then : Bears T n j after
    bears_then = bears_after w.bears e ok own

    has_then : token T after.rows n ≡ true
    has_then = token_stays t w.bears.along w.has e ok

    held_then : (row_in after j).held ≡ cond (blocked after.rows n x) h (union h x)
    held_then =
        (sets_after w.bears e ok own).0
        ∙ (λ i. cond (blocked after.rows n (w.asked i)) (w.held i) (union (w.held i) (w.asked i)))

    asked_then : (row_in after j).asked ≡ cond (blocked after.rows n x) x 0
    asked_then = (sets_after w.bears e ok own).1 ∙ ap (λ (x : ℕ). cond (blocked after.rows n x) x 0) w.asked

    waits_then : waiting T after.rows (row_in after j) ≡ blocked after.rows n x
    waits_then = waits_asking bears_then has_then (blocked after.rows n x) x real asked_then

  -- while the set is blocked the request goes on waiting for the whole of it
  waits_on : (e : Event) → blocked (next jobs t e).rows n x ≡ true → Waits T j n x h (next jobs t e)
  waits_on e =
      next_either t e (λ b u. blocked u.rows n x ≡ true → Waits T j n x h u)
      (λ ok q.
      record {
        bears = bears_then e ok;
        has = has_then e ok;
        held = held_then e ok ∙ ap (λ (b : Bool). cond b h (union h x)) q;
        asked = asked_then e ok ∙ ap (λ (b : Bool). cond b x 0) q;
      })
      (λ q. w)

  module _ (stuck : blocked t.rows n x ≡ true) (e : Event) where
    -- with the event after which it is not blocked, the whole set is held
    granted_then : blocked (next jobs t e).rows n x ≡ false → Has (next jobs t e) j (union h x) 0
    granted_then =
        next_either t e (λ b u. blocked u.rows n x ≡ false → Has u j (union h x) 0)
        (λ ok q. (
          held_then e ok ∙ ap (λ (b : Bool). cond b h (union h x)) q,
          asked_then e ok ∙ ap (λ (b : Bool). cond b x 0) q,
        ))
        (λ q. absurd (true≢false (sym stuck ∙ q)))

    -- that event lists the job, once, and no other does
    listed_then_lem : count (eqb j) (lists t e) ≡ bit (not (blocked (next jobs t e).rows n x))
    unfolding count
    listed_then_lem =
        next_either t e (λ b u. count (eqb j) (cond b (wakes t e) []) ≡ bit (not (blocked u.rows n x)))
        (λ ok. listed_after w.bears e ok (own e ok) ∙ (λ i. bit (waits i && not (waits_then e ok i))))
        (sym (ap (λ (b : Bool). bit (not b)) stuck))

-- what is blocked after a sequence of events was blocked before it
blocked_back :
    {T n : ℕ} (t : Table) → Along T n t → (x : ℕ) (es : List Event) → blocked (run t es).rows n x ≡ true →
    blocked t.rows n x ≡ true
blocked_back {n = n} t along x es q =
    lt-ltb 0 (in_way t.rows n x) (omega (arith, way_falls t along x es, ltb-true 0 (in_way (run t es).rows n x) q))

waits_run :
    {T j n x h : ℕ} → 0 < x → {t : Table} → Waits T j n x h t → (es : List Event) → blocked (run t es).rows n x ≡ true →
    Waits T j n x h (run t es)
unfolding course
waits_run real w [] q = w
waits_run {x = x} real {t} w (e ∷ es) q =
    let still = blocked_back (next jobs t e) (along_next w.bears.along e) x es q in
    waits_run real {t = next jobs t e} (waits_on real w e still) es q

-- ---- The ask

module _ {T n j : ℕ} {t : Table} (b : Bears T n j t) (tick : Tick) (x : ℕ) (ok : Accepts jobs t (Ask j tick x)) where
  abbrev row : Row
  row = row_in t j

  abbrev asking : Table
  asking = accepted t (Ask j tick x)

  pub ask_has_token : token T t.rows n ≡ true
  ask_has_token =
      lt-ltb (ahead t.rows n) T (rw (b.along.tokens, b.turn) at (acts jobs t (Ask j tick x) ok refl).has)

  pub ask_says_lem : answer jobs t (Ask j tick x) ≡ fine (cond (blocked t.rows n x) Answers.says_wait Answers.says_granted)
  ask_says_lem =
      answer_accepted jobs t (Ask j tick x) ok
      ∙ ap (λ (m : ℕ). fine (cond (blocked t.rows m x) Answers.says_wait Answers.says_granted)) b.turn

  -- the ask itself moves nobody in or out of the way
  decided : blocked t.rows row.turn.0 x ≡ blocked asking.rows n x
  decided =
      ap (λ (m : ℕ). blocked t.rows m x) b.turn
      ∙ ap (ltb 0) ((alike_quiet jobs t (Ask j tick x) ok n b.along.given refl).same_way x)

  held_asked : (row_in asking j).held ≡ cond (blocked asking.rows n x) row.held (union row.held x)
  held_asked =
      (decided_sets (asked jobs t j tick x ok).decided).0
      ∙ ap (λ (b : Bool). cond b row.held (union row.held x)) decided

  asked_asked : (row_in asking j).asked ≡ cond (blocked asking.rows n x) x 0
  asked_asked = (decided_sets (asked jobs t j tick x ok).decided).1 ∙ ap (λ (b : Bool). cond b x 0) decided

  -- an accepted ask is for some resource
  real : 0 < x
  unfolding case
  real = omega (arith, eqb-false x 0 (passed jobs t (Ask j tick x) ok 11))

  waits_first : blocked asking.rows n x ≡ true → Waits T j n x row.held asking
  waits_first q =
      record {
        bears = record { along = along_accepted b.along (Ask j tick x) ok; some = b.some; turn = (asked jobs t j tick x ok).turn ∙ b.turn };
        has = token_stays t b.along ask_has_token (Ask j tick x) ok;
        held = held_asked ∙ ap (λ (b : Bool). cond b row.held (union row.held x)) q;
        asked = asked_asked ∙ ap (λ (b : Bool). cond b x 0) q;
      }

  waits_while :
      (more : List Event) → blocked (run asking more).rows n x ≡ true → Waits T j n x row.held (run asking more)
  waits_while more q =
      let still = blocked_back asking (along_accepted b.along (Ask j tick x) ok) x more q in
      waits_run real (waits_first still) more q

  pub ask_granted : AskedSet ours j n x row.held (next jobs t (Ask j tick x))
  unfolding case
  ask_granted =
      subst (AskedSet ours j n x row.held) (sym (next_accepted jobs t (Ask j tick x) ok))
      (record {
        apart = passed jobs t (Ask j tick x) ok 14;
        at_once = λ q. (
          held_asked ∙ ap (λ (b : Bool). cond b row.held (union row.held x)) q,
          asked_asked ∙ ap (λ (b : Bool). cond b x 0) q,
        );
        waits = λ more q. ((waits_while more q).held, (waits_while more q).asked);
        then = λ more e q. granted_then real (waits_while more q) q e;
        listed = λ more e q. listed_then_lem real (waits_while more q) q e;
      })
