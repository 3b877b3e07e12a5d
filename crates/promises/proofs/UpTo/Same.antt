-- What is the same on two tables that agree up to turn n: the row of each request up to n, who stands before it, what is in
-- its way, and so what it is answered.
use Rattle.std.specs.Prelude.{◌&&◌, ◌+◌, ◌++◌, ◌<◌, ◌||◌, ◌∷◌, ◌≡◌, ◌≤◌}
use Rattle.promises.specs.Prelude.{AlreadyHeld, AlreadyLive, BadStart, BitSet, Bool, Case, ClockGoneBack, ClockLeap, EmptySet, List, NoSuchJob, NoSuchResource, NoToken, NotDeclared, NotHeld, NotLive, Open, Outcome, Refusal, Row, Said, ShortList, StartOutOfPlace, StillWaiting, Table, Tick, TimeSpent, TurnsSpent, UnknownKind, UnknownVersion, UnsoundTable, WrongLength, WrongSize, [], about, ahead, among, and_left, answer, ap, applies, arith, below, blocked, calling, cases_by, clock_refusals, difference, earlier, earlier_turn, eqb, false, fine, first, first_front, gone_back, has_job, in_way, inside, job_of, jobs, leapt, leb, live, lt_irrefl, ltb, meets, not, number_of, outcome, refl, refused, refusing, report, row_in, row_of, said, says_done, says_granted, says_token, says_wait, says_woke, some_first, sound, suc, sym, time_at, time_spent, true, true≢false, unless, when, zero, ℕ, ◌∙◌}
use Rattle.event.specs.declared.events.Event.{Event}
use Rattle.promises.specs.History.Words.{is_fine}
use Rattle.kept.specs.Sound.Words.{seen}
use Rattle.promises.specs.UpTo.Statement.{Agree, is_of_them, but_number, of_them}
use Rattle.promises.proofs.UpTo.Rows.{alike_up_to, earlier_seen, row_up_to, seen_in_lem}

-- a refusal is one whatever the value would have been
unless_some : {A : Type 0} (x y : A) (k : ℕ) → 0 < k → unless k x ≡ unless k y
unless_some x y zero h = absurd (lt_irrefl 0 h)
unless_some x y (suc k) h = refl

module _ {n : ℕ} {t u : Table} (a : Agree n t u) where
  pub same_seen : (j : ℕ) → seen (n + 1) (row_in t j) ≡ seen (n + 1) (row_in u j)
  same_seen j = sym (row_up_to n t.rows j) ∙ ap (λ (l : List Row). row_of l j) a.rows ∙ row_up_to n u.rows j

  pub same_among : (j : ℕ) → is_of_them n t j ≡ is_of_them n u j
  same_among j =
      sym (earlier_seen (n + 1) (row_in t j)) ∙ ap (earlier (n + 1)) (same_seen j) ∙ earlier_seen (n + 1) (row_in u j)

  pub same_of : (e : Event) → of_them n t e ≡ of_them n u e
  same_of e = ap (λ (b : Bool). has_job (about e).role && b) (same_among (job_of e))

  pub same_time : (tick : ℕ) → time_at t tick ≡ time_at u tick
  same_time tick = ap (λ (time : ℕ). time + difference time tick) a.time

  -- of one of them
  module _ (j : ℕ) (in-t : is_of_them n t j ≡ true) where
    pub same_row : row_in t j ≡ row_in u j
    same_row =
        sym (seen_in_lem (n + 1) (row_in t j) in-t)
        ∙ same_seen j
        ∙ seen_in_lem (n + 1) (row_in u j) (sym (same_among j) ∙ in-t)

    abbrev turn : ℕ
    turn = (row_in t j).turn.0

    low : turn ≤ n + 1
    low = let p = earlier_turn (n + 1) (row_in t j) in-t in omega arith

    same_ahead : ahead t.rows turn ≡ ahead u.rows turn
    same_ahead =
        (alike_up_to n t.rows turn low).same_ahead
        ∙ ap (λ (l : List Row). ahead l turn) a.rows
        ∙ sym (alike_up_to n u.rows turn low).same_ahead

    same_way : (x : ℕ) → in_way t.rows turn x ≡ in_way u.rows turn x
    same_way x =
        (alike_up_to n t.rows turn low).same_way x
        ∙ ap (λ (l : List Row). in_way l turn x) a.rows
        ∙ sym ((alike_up_to n u.rows turn low).same_way x)

    pub same_blocked : (x : ℕ) → blocked t.rows turn x ≡ blocked u.rows (row_in u j).turn.0 x
    same_blocked x = ap (ltb 0) (same_way x) ∙ ap (λ (r : Row). blocked u.rows r.turn.0 x) same_row

    same_has : ltb (ahead t.rows turn) t.tokens ≡ ltb (ahead u.rows (row_in u j).turn.0) u.tokens
    same_has =
        (λ i. ltb (same_ahead i) (a.tokens i)) ∙ ap (λ (r : Row). ltb (ahead u.rows r.turn.0) u.tokens) same_row

    module _ (sound-t : sound t ≡ true) (sound-u : sound u ≡ true) where
      -- whether a refusal applies to a call of one of them; only an opening looks at the last turn
      same_applies :
          (tick s : ℕ) (r : Refusal) → eqb (number_of r) (number_of TurnsSpent) ≡ false →
          applies t (calling j tick s) r ≡ applies u (calling j tick s) r
      same_applies tick s UnsoundTable q = ap not (sound-t ∙ sym sound-u)
      same_applies tick s NoSuchJob q = refl
      same_applies tick s ClockGoneBack q = ap (λ (time : ℕ). gone_back time tick) a.time
      same_applies tick s ClockLeap q = ap (λ (time : ℕ). leapt time tick) a.time
      same_applies tick s TimeSpent q = ap (λ (time : ℕ). time_spent time tick) a.time
      same_applies tick s AlreadyLive q = ap live same_row
      same_applies tick s NotLive q = ap (λ (r : Row). not (live r)) same_row
      same_applies tick s NoToken q = ap not same_has
      same_applies tick s StillWaiting q = ap (λ (r : Row). ltb 0 r.asked) same_row
      same_applies tick s EmptySet q = refl
      same_applies tick s NoSuchResource q = ap (λ (R : ℕ). not (below s R)) a.resources
      same_applies tick s NotDeclared q = ap (λ (r : Row). not (inside s r.declared)) same_row
      same_applies tick s AlreadyHeld q = ap (λ (r : Row). meets s r.held) same_row
      same_applies tick s NotHeld q = ap (λ (r : Row). not (inside s r.held)) same_row
      same_applies tick s TurnsSpent q = absurd (true≢false q)
      same_applies tick s BadStart q = refl
      same_applies tick s ShortList q = refl
      same_applies tick s WrongLength q = refl
      same_applies tick s UnknownKind q = refl
      same_applies tick s BitSet q = refl
      same_applies tick s StartOutOfPlace q = refl
      same_applies tick s WrongSize q = refl
      same_applies tick s UnknownVersion q = refl

      -- so the cases of a call of one of them are the same
      pub same_cases :
          (tick s : ℕ) (rs : List Refusal) → among TurnsSpent rs ≡ false →
          cases_by (applies t (calling j tick s)) rs ≡ cases_by (applies u (calling j tick s)) rs
      same_cases tick s [] q = refl
      same_cases tick s (r ∷ rs) q = go (eqb (number_of r) 16) refl q (same_cases tick s rs)
        where
          go :
              (b : Bool) → eqb (number_of r) 16 ≡ b → (b || among TurnsSpent rs) ≡ false →
              (among TurnsSpent rs ≡ false → cases_by (applies t (calling j tick s)) rs ≡ cases_by (applies u (calling j tick s)) rs) →
              cases_by (applies t (calling j tick s)) (r ∷ rs) ≡ cases_by (applies u (calling j tick s)) (r ∷ rs)
          go true p q more = absurd (true≢false q)
          go false p q more = λ i. refusing r (same_applies tick s r p i) ∷ more q i

      -- an opening for a job that has a live request is refused, no later than because of that
      pub same_open : (tick : Tick) (s : ℕ) → answer jobs t (Open j tick s) ≡ answer jobs u (Open j tick s)
      unfolding answer outcome
      same_open tick s =
          let c = calling j tick.0 s in
          let front : List Refusal = UnsoundTable ∷ NoSuchJob ∷ clock_refusals ++ AlreadyLive ∷ [] in
          let lives = and_left (live (row_in t j)) (ltb turn (n + 1)) in-t in
          let some-t = some_first (applies t c) front AlreadyLive refl lives in
          let some-u = some_first (applies u c) front AlreadyLive refl (ap live (sym same_row) ∙ lives) in
          let same-front = ap first (same_cases tick.0 s front refl) in
          ap (λ (k : ℕ). unless k (said t (Open j tick s)))
          (first_front (cases_by (applies t c) front) (cases_by (applies t c) (EmptySet ∷ NoSuchResource ∷ TurnsSpent ∷ [])) some-t
          ∙ same-front)
          ∙ unless_some (said t (Open j tick s)) (said u (Open j tick s)) (first (cases_by (applies u c) front)) some-u
          ∙ ap (λ (k : ℕ). unless k (said u (Open j tick s)))
          (sym
          (first_front (cases_by (applies u c) front) (cases_by (applies u c) (EmptySet ∷ NoSuchResource ∷ TurnsSpent ∷ [])) some-u))

      -- what is reported of one of them
      pub same_report : report t j ≡ report u j
      unfolding report
      same_report =
          let s : sound t ≡ sound u = sound-t ∙ sym sound-u in
          let r = same_row in
          let before : ahead t.rows turn ≡ ahead u.rows (row_in u j).turn.0 =
          same_ahead ∙ ap (λ (r : Row). ahead u.rows r.turn.0) r in
          let way : in_way t.rows turn (row_in t j).declared ≡ in_way u.rows (row_in u j).turn.0 (row_in u j).declared =
          same_way (row_in t j).declared ∙ ap (λ (r : Row). in_way u.rows r.turn.0 r.declared) r in
          λ i.
          outcome (when 3 (not (s i)) ∷ when 4 (leb jobs j) ∷ when 8 (not (live (r i))) ∷ [])
          (record {
            turn = (r i).turn;
            token = same_has i;
            waiting = live (r i) && (not (same_has i) || ltb 0 (r i).asked);
            ahead = before i;
            in_way = way i;
          })

-- where the cases are the same, answers that tell how many were woken differ in that number alone
pub but_number_lem : (cs : List Case) (k k' : ℕ) → but_number (outcome cs (says_woke k)) ≡ but_number (outcome cs (says_woke k'))
unfolding outcome
but_number_lem cs k k' = go (first cs)
  where
    go : (c : ℕ) → but_number (unless c (says_woke k)) ≡ but_number (unless c (says_woke k'))
    go zero = refl
    go (suc c) = refl

pub fine_but_number : (o : Outcome Said) → is_fine (but_number o) ≡ is_fine o
fine_but_number (refused k) = refl
fine_but_number (fine says_token) = refl
fine_but_number (fine says_granted) = refl
fine_but_number (fine says_wait) = refl
fine_but_number (fine says_done) = refl
fine_but_number (fine (says_woke k)) = refl
