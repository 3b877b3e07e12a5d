-- Requests of turns up to n: what they live through depends on the rows of turns up to n alone. The proof.
use Rattle.std.specs.Prelude.{◌+◌, ◌++◌, ◌∷◌, ◌≡◌}
use Rattle.promises.specs.Prelude.{Ask, Beat, Bool, Case, Complete, GiveUp, List, Open, Release, Row, Table, TurnsSpent, [], about, accepted, among, answer, ap, arith, refusals_of, cases, cond, course, earlier_turn, false, false≢true, giving_up, has_job, job_of, jobs, keep, last_after, late_in, late_job, length, line, list_cases, moved, next, outcome, refl, releasing, row_after, row_in, rows_after, rows_with, run, says_done, says_granted, says_wait, says_woke, set, set_of, settled, sound, sym, tick_of, time_at, true, union, wakes, woken, ℕ, ◌∙◌}
use Rattle.event.specs.declared.events.Event.{Event}
use Rattle.promises.proofs.History.Events.{accepts}
use Rattle.promises.specs.History.Words.{is_fine, taken, Along}
use Rattle.promises.proofs.History.Count.{along_next}
use Rattle.kept.specs.Soundness.{next_sound}
use Rattle.kept.specs.Words.{Accepts}
use Rattle.kept.specs.Accepted.{next_accepted, open_idle}
use Rattle.kept.specs.Sound.Words.{seen}
use Rattle.promises.specs.UpTo.Statement.{Agree, SameUpTo, ReportedAlike, but_number, of_them, up_to, TakenAlike, is_of_them}
use Rattle.promises.proofs.UpTo.Events.{listed_woken, others, refused_stays}
use Rattle.promises.proofs.UpTo.Line.{late_up_to}
use Rattle.promises.proofs.UpTo.Rows.{set_up_to, settled_up_to}
use Rattle.promises.proofs.UpTo.Same.{but_number_lem, fine_but_number, same_blocked, same_cases, same_of, same_open, same_report, same_row, same_time}

module _ {T n : ℕ} {t u : Table} (along-t : Along T n t) (along-u : Along T n u) (sound-t : sound t ≡ true)
    (sound-u : sound u ≡ true) (a : Agree n t u) where
  -- of an event of one of them the cases are the same
  same_event :
      (e : Event) → is_of_them n t (job_of e) ≡ true → among TurnsSpent (refusals_of (about e)) ≡ false → cases jobs t e ≡ cases jobs u e
  same_event e in-t q =
      ap (λ (cs : List Case). cond (about e).wakes (list_cases jobs) [] ++ cs)
      (same_cases a (job_of e) in-t sound-t sound-u (tick_of e) (set_of e) (refusals_of (about e)) q)

  -- an event that may wake others is answered by how many it woke, or by its refusal
  answered_woken :
      (e : Event) → is_of_them n t (job_of e) ≡ true → among TurnsSpent (refusals_of (about e)) ≡ false →
      but_number (outcome (cases jobs t e) (says_woke (length (wakes t e))))
      ≡ but_number (outcome (cases jobs u e) (says_woke (length (wakes u e))))
  answered_woken e in-t q =
      let more = length (wakes u e) in
      but_number_lem (cases jobs t e) (length (wakes t e)) more
      ∙ (λ i. but_number (outcome (same_event e in-t q i) (says_woke more)))

  answered : (e : Event) → of_them n t e ≡ true → but_number (answer jobs t e) ≡ but_number (answer jobs u e)
  unfolding answer
  answered (Beat tick) in-t = absurd (false≢true in-t)
  answered (Open j tick s) in-t = ap but_number (same_open a j in-t sound-t sound-u tick s)
  answered (Ask j tick s) in-t =
      λ i. but_number (outcome (same_event (Ask j tick s) in-t refl i) (cond (same_blocked a j in-t s i) says_wait says_granted))
  answered (Release j tick s) in-t = λ i. but_number (outcome (same_event (Release j tick s) in-t refl i) says_done)
  answered (Complete j tick) in-t = answered_woken (Complete j tick) in-t refl
  answered (GiveUp j tick s) in-t = answered_woken (GiveUp j tick s) in-t refl

  taken_alike : (e : Event) → of_them n t e ≡ true → taken t e ≡ taken u e
  taken_alike e in-t =
      sym (fine_but_number (answer jobs t e)) ∙ ap is_fine (answered e in-t) ∙ fine_but_number (answer jobs u e)

  -- what an accepted event of one of them makes of its row
  same_row_after :
      (e : Event) → Accepts jobs t e → of_them n t e ≡ true →
      row_after t (time_at t (tick_of e)) e (row_in t (job_of e)) ≡ row_after u (time_at u (tick_of e)) e (row_in u (job_of e))
  same_row_after (Beat tick) ok in-t = absurd (false≢true in-t)
  same_row_after (Open j tick s) ok in-t =
      absurd (omega (arith, (earlier_turn (n + 1) (row_in t j) in-t).0, open_idle jobs t j tick s ok))
  same_row_after (Ask j tick s) ok in-t =
      let r = same_row a j in-t in
      λ i.
      cond (same_blocked a j in-t s i)
      (record { turn = (r i).turn; declared = (r i).declared; held = (r i).held; asked = s; since = same_time a tick.0 i })
      (record { turn = (r i).turn; declared = (r i).declared; held = union (r i).held s; asked = (r i).asked; since = (r i).since })
  same_row_after (Release j tick s) ok in-t = ap (λ (r : Row). releasing r s) (same_row a j in-t)
  same_row_after (Complete j tick) ok in-t = refl
  same_row_after (GiveUp j tick s) ok in-t = ap (λ (r : Row). giving_up r s) (same_row a j in-t)

  -- the rows that an accepted event of one of them leaves
  rows_accepted :
      (e : Event) → Accepts jobs t e → of_them n t e ≡ true → up_to n (accepted t e).rows ≡ up_to n (accepted u e).rows
  rows_accepted e ok in-t = swept (about e).wakes
    where
      row : Table → Row
      row t = row_after t (time_at t (tick_of e)) e (row_in t (job_of e))

      written :
          (b : Bool) →
          up_to n (cond b (set t.rows (job_of e) (row t)) t.rows) ≡ up_to n (cond b (set u.rows (job_of e) (row u)) u.rows)
      written true =
          set_up_to n t.rows (job_of e) (row t)
          ∙ (λ i. set (a.rows i) (job_of e) (seen (n + 1) (same_row_after e ok in-t i)))
          ∙ sym (set_up_to n u.rows (job_of e) (row u))
      written false = a.rows

      swept :
          (w : Bool) →
          up_to n (cond w (settled t.tokens (rows_with t e)) (rows_with t e))
          ≡ up_to n (cond w (settled u.tokens (rows_with u e)) (rows_with u e))
      swept true =
          settled_up_to n (rows_with t e) t.tokens
          ∙ (λ i. settled (a.tokens i) (written (has_job (about e).role) i))
          ∙ sym (settled_up_to n (rows_with u e) u.tokens)
      swept false = written (has_job (about e).role)

  module _ (e : Event) where
    rows_next : up_to n (next jobs t e).rows ≡ up_to n (next jobs u e).rows
    rows_next = go (of_them n t e) refl (taken t e) refl
      where
        go :
            (b : Bool) → of_them n t e ≡ b → (c : Bool) → taken t e ≡ c →
            up_to n (next jobs t e).rows ≡ up_to n (next jobs u e).rows
        go false out c q = others t along-t e out ∙ a.rows ∙ sym (others u along-u e (sym (same_of a e) ∙ out))
        go true in-t true q =
            let ok = accepts t e q in
            let ok-u = accepts u e (sym (taken_alike e in-t) ∙ q) in
            rw (next_accepted jobs t e ok, next_accepted jobs u e ok-u) (rows_accepted e ok in-t)
        go true in-t false q =
            rw (refused_stays t e q, refused_stays u e (sym (taken_alike e in-t) ∙ q)) a.rows

    agree_moved :
        (tick last last' : ℕ) (rows rows' : List Row) → up_to n rows ≡ up_to n rows' →
        Agree n (moved t (time_at t tick) last rows) (moved u (time_at u tick) last' rows')
    agree_moved tick last last' rows rows' same =
        record { tokens = a.tokens; resources = a.resources; limit = a.limit; time = same_time a tick; rows = same }

    agree_accepted :
        (e : Event) → up_to n (accepted t e).rows ≡ up_to n (accepted u e).rows → Agree n (accepted t e) (accepted u e)
    agree_accepted e same = agree_moved (tick_of e) (last_after t e) (last_after u e) (rows_after t e) (rows_after u e) same

    agree_next : taken t e ≡ taken u e → Agree n (next jobs t e) (next jobs u e)
    agree_next alike = go (taken t e) refl
      where
        go : (b : Bool) → taken t e ≡ b → Agree n (next jobs t e) (next jobs u e)
        go true q =
            let ok = next_accepted jobs t e (accepts t e q) in
            let ok-u = next_accepted jobs u e (accepts u e (sym alike ∙ q)) in
            rw (ok, ok-u) (agree_accepted e (rw (ok, ok-u) at rows_next))
        go false q = rw (refused_stays t e q, refused_stays u e (sym alike ∙ q)) a

    -- the rows of turns up to n decide what those requests are told, who of them is woken, and their next rows
    pub up_to_decides : SameUpTo n t u e
    up_to_decides =
        record {
          answered = answered e;
          listed =
              listed_woken t along-t e ∙ (λ i. woken T (a.rows i) (rows_next i)) ∙ sym (listed_woken u along-u e);
          rows = rows_next;
          agree = agree_next;
          taken_alike = taken_alike e;
          others = others t along-t e;
        }

-- and what they are told when they ask
pub up_to_tells :
    {n : ℕ} {t u : Table} → sound t ≡ true → sound u ≡ true → Agree n t u → ReportedAlike n t u
unfolding late_in
up_to_tells {n} {t} {u} sound-t sound-u a =
    record {
      reported = λ j in-t. same_report a j in-t sound-t sound-u;
      overdue = λ tick.
          late_up_to n t.tokens t.limit (time_at t tick) t.rows
          ∙ (λ i. keep (late_job (a.tokens i) (a.limit i) (same_time a tick i) (a.rows i)) (line (a.rows i)))
          ∙ sym (late_up_to n u.tokens u.limit (time_at u tick) u.rows);
    }

pub up_to_agrees :
    {T n : ℕ} {t u : Table} → Along T n t → Along T n u → sound t ≡ true → sound u ≡ true → Agree n t u → (es : List Event) →
    TakenAlike t u es → Agree n (run t es) (run u es)
unfolding course TakenAlike
up_to_agrees along-t along-u sound-t sound-u a [] alike = a
up_to_agrees {t = t} {u = u} along-t along-u sound-t sound-u a (e ∷ es) alike =
    up_to_agrees {t = next jobs t e} {u = next jobs u e} (along_next along-t e) (along_next along-u e) (next_sound jobs t e sound-t) (next_sound jobs u e sound-u)
    ((up_to_decides along-t along-u sound-t sound-u a e).agree alike.0) es alike.1
