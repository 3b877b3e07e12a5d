-- An event carried out by what it sees of a table is what the event means.
use Rattle.std.specs.Prelude.{◌&&◌, ◌++◌, ◌<◌, ◌≡◌, ◌≤◌}
use Rattle.arbiter.specs.Prelude.{Answer, Err, Ok, Result, outcome_of, Acts, Ask, Beat, Bool, Case, Change, Complete, Event, GiveUp, List, Next, NoToken, NotLive, Onward, Open, Refusal, Release, Seen, Settles, StillWaiting, Swept, Table, [], ◌∙◌, about, acceptance_tells, actor, ahead, all, among, and_left, and_right, ap, arith, calling, case, clear, clear_named, cond, described, ended, every_kind, false, fine, implied, implies, job_of, jobs, kind_of, le-ltb, le-zero, leb-false, length, live, lt-ltb, ltb-false, ltb-true, not-false, of_role, outcome, outcome_is, outcome_past, over, refl, refusals_of, refused, set, set_of, settled_rows, sound_steady, stayed, sym, this, tick_of, true, true≢false, woken, ℕ}
use Rattle.arbiter.proofs.Answering.{accepted_answers, refused_answers, refused_answers_into}
use Rattle.arbiter.specs.Answers.{said_by, said_of, says_woke}
use Rattle.arbiter.specs.Bounded.{bounds_of}
use Rattle.arbiter.specs.ChangeLaws.{Decides, change_accepted, change_said, change_on, forbids, has_room, loud_accepted, loud_said, sound_by_lem, survey_tells}
use Rattle.decision.specs.Changes.{change_for, refusal_cases}
use Rattle.arbiter.specs.Effects.{Does}
use Rattle.arbiter.specs.Meaning.{accepted, moved, said, wakes}
use Rattle.arbiter.specs.Promises.{Answered, AnsweredInto}
use Rattle.arbiter.specs.Refusals.{applies, cases, list_cases, seen_in}
use Rattle.arbiter.specs.Sound.{row_in, sound}
use Rattle.decision.specs.declared.answer.Answer.TheVariants as Answers

-- ---- What an event sees

-- the cases of an event that wakes nobody are those by what it sees
pub quiet_cases : (n : ℕ) (t : Table) (e : Event) → (about e).wakes ≡ false → cases n t e ≡ refusal_cases (seen_in t (job_of e)) e
quiet_cases n t e quiet = ap (λ (b : Bool). cond b (list_cases n) [] ++ refusal_cases (seen_in t (job_of e)) e) quiet

-- so are those of any event, with a list that is long enough
pub long_cases :
    {A : Type 0} (n : ℕ) (t : Table) (e : Event) (a : A) → jobs ≤ n → outcome (cases n t e) a ≡ outcome (refusal_cases (seen_in t (job_of e)) e) a
long_cases {A} n t e a long = go (about e).wakes
  where
    go : (b : Bool) → outcome (cond b (list_cases n) [] ++ refusal_cases (seen_in t (job_of e)) e) a ≡ outcome (refusal_cases (seen_in t (job_of e)) e) a
    go true = sym (outcome_past _ _ _ _ (le-ltb n jobs long))
    go false = refl

-- what an event comes to by what is seen is what it comes to on the table
module _ (t : Table) (e : Event) (s : Seen) (forbidden room : Bool) where
  pub decides_by :
      s.sound ≡ sound t → (sound t ≡ true → s ≡ seen_in t (job_of e)) → (sound t ≡ true → forbidden ≡ forbids t e) →
      (sound t ≡ true → room ≡ has_room t) →
      outcome (refusal_cases s e) (change_for s forbidden room e) ≡ outcome (refusal_cases (seen_in t (job_of e)) e) (change_on t e)
  decides_by told sees forbidding having =
      survey_tells t e s _ _ told sees (λ ok. λ i. change_for (sees ok i) (forbidding ok i) (having ok i) e)

-- ---- Events that wake nobody

-- where an event that wakes nobody is accepted, what changes is what it means
pub changes_answer :
    (n : ℕ) (t : Table) (e : Event) → (about e).wakes ≡ false → (c : Change) (r : Next) →
    fine c ≡ outcome (refusal_cases (seen_in t (job_of e)) e) (change_on t e) → r.answer ≡ Ok c.answer →
    r.table ≡ moved t c.time c.last.0 (set t.rows (job_of e) c.row) → Answered n t e r
changes_answer n t e quiet c r is says hands =
    let c-is : c ≡ change_on t e =
    sym (acceptance_tells {B = ℕ} (refusal_cases (seen_in t (job_of e)) e) (change_on t e) c (sym is)).1 in
    accepted_answers n t e (change_on t e) r c (is ∙ ap (λ (cs : List Case). outcome cs (change_on t e)) (sym (quiet_cases n t e quiet)))
    (record {
      says = ap said_of says ∙ ap (λ (x : Change). fine (said_by x.answer)) c-is ∙ change_said t e quiet;
      hands =
          hands
          ∙ ap (λ (x : Change). moved t x.time x.last.0 (set t.rows (job_of e) x.row)) c-is
          ∙ change_accepted t e quiet;
    })

-- where it is refused, the table stays
pub quiet_refused :
    (t : Table) (e : Event) → (about e).wakes ≡ false → {d : Result Change Refusal} {x : Refusal} {a : Result Answer Refusal} →
    Decides t e d → d ≡ Err x → a ≡ Err x → Answered jobs t e (record { answer = a; table = t })
quiet_refused t e quiet {d} {x} {a} decides is says =
    refused_answers jobs t e (change_on t e) _ x
    (sym (ap outcome_of is) ∙ decides ∙ ap (λ (cs : List Case). outcome cs (change_on t e)) (sym (quiet_cases jobs t e quiet)))
    (record { says = ap said_of says; hands = refl })

-- an accepted event names a job that has a row
pub has_row : {A : Type 0} (s : Seen) (e : Event) (a x : A) → fine x ≡ outcome (refusal_cases s e) a → job_of e < jobs
unfolding case
has_row s (Beat tick) a x v = omega arith
has_row s (Open j tick set) a x v = leb-false jobs j (clear 4 (refusal_cases s (Open j tick set)) refl (acceptance_tells {B = ℕ} (refusal_cases s (Open j tick set)) a x (sym v)).0)
has_row s (Ask j tick set) a x v = leb-false jobs j (clear 4 (refusal_cases s (Ask j tick set)) refl (acceptance_tells {B = ℕ} (refusal_cases s (Ask j tick set)) a x (sym v)).0)
has_row s (Release j tick set) a x v = leb-false jobs j (clear 4 (refusal_cases s (Release j tick set)) refl (acceptance_tells {B = ℕ} (refusal_cases s (Release j tick set)) a x (sym v)).0)
has_row s (Complete j tick) a x v = leb-false jobs j (clear 4 (refusal_cases s (Complete j tick)) refl (acceptance_tells {B = ℕ} (refusal_cases s (Complete j tick)) a x (sym v)).0)
has_row s (GiveUp j tick set) a x v = leb-false jobs j (clear 4 (refusal_cases s (GiveUp j tick set)) refl (acceptance_tells {B = ℕ} (refusal_cases s (GiveUp j tick set)) a x (sym v)).0)

-- ---- Events that may wake others

-- every such event is tested for whether its job may act
asks_actor : (e : Event) → (about e).wakes ≡ true → all (λ r. among r (refusals_of (about e))) (of_role actor) ≡ true
unfolding all
asks_actor e =
    implied (about e).wakes (all (λ r. among r (refusals_of (about e))) (of_role actor))
    (every_kind (λ k. implies (described k).wakes (all (λ r. among r (refusals_of (described k))) (of_role actor))) refl (kind_of e))

module _ (t : Table) (e : Event) (loud : (about e).wakes ≡ true) where
  -- a lent list that is too short is refused first
  pub short_cases : {A : Type 0} (n : ℕ) (a : A) → n < jobs → refused 2 ≡ outcome (cases n t e) a
  short_cases {A} n a short =
      let rest = refusal_cases (seen_in t (job_of e)) e in
      let told : refused 2 ≡ outcome (list_cases n ++ rest) a = outcome_is a (this (lt-ltb n jobs short)) in
      told ∙ ap (λ (b : Bool). outcome (cond b (list_cases n) [] ++ rest) a) (sym loud)

  -- where it is refused otherwise, table and list stay
  pub loud_refused :
      {list : List ℕ} → jobs ≤ length list → {d : Result Change Refusal} {x : Refusal} {a : Result Answer Refusal} → Decides t e d →
      d ≡ Err x → a ≡ Err x → AnsweredInto t e list (record { answer = a; table = t }) list
  loud_refused {list} long {d} {x} {a} decides is says =
      refused_answers_into t e (change_on t e) list _ x (sym (ap outcome_of is) ∙ decides ∙ sym (long_cases _ t e (change_on t e) long))
      (record { says = ap said_of says; hands = refl })

  -- whoever may wake others is live, has a token and asks for nothing
  pub may_act :
      {A : Type 0} (a x : A) → fine x ≡ outcome (refusal_cases (seen_in t (job_of e)) e) a → Acts t.tokens t.rows (job_of e)
  unfolding all
  may_act a x v =
      let row = row_in t (job_of e) in
      let applies-not : (r : Refusal) → among r (refusals_of (about e)) ≡ true → applies t (calling (job_of e) (tick_of e) (set_of e)) r ≡ false =
      λ r asked.
      clear_named (applies t (calling (job_of e) (tick_of e) (set_of e))) (refusals_of (about e)) r asked
      (acceptance_tells {B = ℕ} (refusal_cases (seen_in t (job_of e)) e) a x (sym v)).0 in
      let is-asked : Refusal → Bool = λ r. among r (refusals_of (about e)) in
      let asked = asks_actor e loud in
      let rest = and_right (is-asked NotLive) (is-asked NoToken && (is-asked StillWaiting && true)) asked in
      let last = and_right (is-asked NoToken) (is-asked StillWaiting && true) rest in
      record {
        alive = ltb-true 0 row.turn.0 (not-false (live row) (applies-not NotLive (and_left (is-asked NotLive) _ asked)));
        has_token =
            ltb-true (ahead t.rows row.turn.0) t.tokens
            (not-false _ (applies-not NoToken (and_left (is-asked NoToken) _ rest)));
        asks_nothing = le-zero (ltb-false 0 row.asked (applies-not StillWaiting (and_left (is-asked StillWaiting) true last)));
      }

  -- what it writes is an idle row, or the row of the same request, which goes on
  pub writes_onward : sound t ≡ true → Acts t.tokens t.rows (job_of e) → Onward (row_in t (job_of e)) (change_on t e).row
  writes_onward ok = go e loud
    where
      go : (e : Event) → (about e).wakes ≡ true → Acts t.tokens t.rows (job_of e) → Onward (row_in t (job_of e)) (change_on t e).row
      go (Beat tick) loud acts = absurd (true≢false (sym loud))
      go (Open j tick s) loud acts = absurd (true≢false (sym loud))
      go (Ask j tick s) loud acts = absurd (true≢false (sym loud))
      go (Release j tick s) loud acts = absurd (true≢false (sym loud))
      go (Complete j tick) loud acts = ended refl
      go (GiveUp j tick s) loud acts =
          stayed refl acts.asks_nothing
          (((sound_steady (bounds_of t) t.rows (sound_by_lem t ∙ ok)).each j).rests acts.alive acts.has_token acts.asks_nothing)

  -- what is left of rows and list is what the event means
  pub settling_does :
      (c : Change) (before after : List ℕ) (swept : Swept) (r : Next) → change_on t e ≡ c →
      Settles t.tokens t.rows (job_of e) c.row before swept after → r.answer ≡ Ok (Answers.Woke swept.count) →
      r.table ≡ moved t c.time c.last.0 swept.rows →
      Does (said t e) (accepted t e) r × (after ≡ over (wakes t e) before)
  settling_does c before after swept r is done says hands =
      let rows_after_lem : settled_rows t.tokens t.rows (job_of e) c.row ≡ (accepted t e).rows =
      ap (λ (x : Change). settled_rows t.tokens t.rows (job_of e) x.row) (sym is)
      ∙ ap (λ (u : Table). u.rows) (loud_accepted t e loud) in
      let woke : woken t.tokens t.rows (settled_rows t.tokens t.rows (job_of e) c.row) ≡ wakes t e =
      ap (woken t.tokens t.rows) rows_after_lem
      ∙ sym (ap (λ (b : Bool). cond b (woken t.tokens t.rows (accepted t e).rows) []) loud) in (
        record {
          says =
              ap said_of says ∙ ap (λ (n : ℕ). fine (says_woke n)) (done.lists.told ∙ ap length woke)
              ∙ ap fine (sym (loud_said t e loud));
          hands =
              hands ∙ ap (moved t c.time c.last.0) done.leaves
              ∙ ap (λ (x : Change). moved t x.time x.last.0 (settled_rows t.tokens t.rows (job_of e) x.row)) (sym is)
              ∙ loud_accepted t e loud;
        },
        done.lists.left ∙ ap (λ (l : List ℕ). over l before) woke,
      )
