-- What an event comes to on a table, by what it sees of it.
use Rattle.std.specs.Prelude.{◌+◌, ◌∷◌, ◌≡◌, ◌&&◌, ◌<◌, ◌^◌, ◌≤◌}
use Rattle.arbiter.specs.Prelude.{Bool, Refusal, Result, Table, outcome_of, Ask, Beat, Change, Complete, Event, GiveUp, List, Open, Release, Row, Seen, [], ◌∙◌, about, ap, blocked, cond, false, fine, get_or, idle, job_of, not, outcome, outcome_is, refl, refused, seen_by, set, set_of, settled_rows, sound_by, suc, sym, this, token, true, true≢false, zero, ℕ, ahead, all, all_each, and_left, and_right, arith, count_and_true, count_every, count_line, count_mono, distinct, earlier, highest, holds, le_antisymm, leb, leb-true, length, line, live, ltb-true, turn_earlier, Survey, Surveyed}
use Rattle.decision.specs.Changes.{ask_answer, change_for, open_answer, refusal_cases}
use Rattle.arbiter.specs.Bounded.{bounds_of}
use Rattle.arbiter.specs.Meaning.{accepted, moved, said, wakes}
use Rattle.arbiter.specs.Refusals.{seen_in}
use Rattle.arbiter.specs.Sound.{counters, ranges, row_in, sound, sound_row}
use Rattle.arbiter.specs.Answers.{said_by, says_granted, says_token, says_wait, says_woke}

-- ---- What a survey of a table tells

-- a table is sound by its numbers and its rows
pub sound_by_lem : (t : Table) → sound_by (bounds_of t) t.rows ≡ sound t
unfolding sound sound_by
sound_by_lem t = refl

-- what is seen of them is what is seen of the table
pub seen_by_lem : (t : Table) (j : ℕ) → seen_by (bounds_of t) t.rows j ≡ seen_in t j
seen_by_lem t j = λ i.
    record {
      sound = sound_by_lem t i;
      resources = t.resources;
      time = t.time;
      last = t.last;
      row = row_in t j;
      token = (seen_in t j).token;
    }

-- what is found from what is seen holds for the table too: of an unsound one nothing else is looked at
pub survey_tells :
    {A : Type 0} (t : Table) (e : Event) (s : Seen) (a b : A) → s.sound ≡ sound t → (sound t ≡ true → s ≡ seen_in t (job_of e)) →
    (sound t ≡ true → a ≡ b) → outcome (refusal_cases s e) a ≡ outcome (refusal_cases (seen_in t (job_of e)) e) b
survey_tells {A} t e s a b told sees same = go (sound t) refl
  where
    unsound : (x : Seen) (c : A) → x.sound ≡ false → refused 3 ≡ outcome (refusal_cases x e) c
    unsound x c out = outcome_is c (this (ap not out))

    go : (ok : Bool) → sound t ≡ ok → outcome (refusal_cases s e) a ≡ outcome (refusal_cases (seen_in t (job_of e)) e) b
    go true ok = λ i. outcome (refusal_cases (sees ok i) e) (same ok i)
    go false out = sym (unsound s a (told ∙ out)) ∙ unsound (seen_in t (job_of e)) b out

-- ---- What an accepted event changes

-- writing what stands there already changes nothing
set_same : {A : Type 0} (d : A) (l : List A) (k : ℕ) → set l k (get_or l k d) ≡ l
set_same d [] k = refl
set_same d (x ∷ l) zero = refl
set_same {A} d (x ∷ l) (suc k) = ap (λ (m : List A). x ∷ m) (set_same d l k)

-- whether Q3 forbids its job the set of an event
abbrev pub forbids : Table → Event → Bool
forbids t e = blocked t.rows (row_in t (job_of e)).turn.0 (set_of e)

-- whether a request that is opened now has a token
abbrev pub has_room : Table → Bool
has_room t = token t.tokens t.rows (t.last.0 + 1)

-- what an event changes on a table
abbrev pub change_on : Table → Event → Change
change_on t e = change_for (seen_in t (job_of e)) (forbids t e) (has_room t) e

-- d is what an event comes to on a table, apart from a lent list that is too short
abbrev pub Decides : Table → Event → Result Change Refusal → Type 0
Decides t e d = outcome_of d ≡ outcome (refusal_cases (seen_in t (job_of e)) e) (change_on t e)

-- d is what an event comes to on every table with this many tokens of which v is the survey for it
abbrev pub Finds : Survey → ℕ → Event → Result Change Refusal → Type 0
Finds v T e d = (t : Table) → T ≡ t.tokens → Surveyed (bounds_of t) t.rows (job_of e) v → Decides t e d

-- an event that wakes nobody changes one row
pub change_accepted :
    (t : Table) (e : Event) → (about e).wakes ≡ false →
    moved t (change_on t e).time (change_on t e).last.0 (set t.rows (job_of e) (change_on t e).row) ≡ accepted t e
change_accepted t (Beat tick) quiet = ap (λ (rows : List Row). moved t (change_on t (Beat tick)).time t.last.0 rows) (set_same idle t.rows 0)
change_accepted t (Open j tick s) quiet = refl
change_accepted t (Ask j tick s) quiet = refl
change_accepted t (Release j tick s) quiet = refl
change_accepted t (Complete j tick) quiet = absurd (true≢false quiet)
change_accepted t (GiveUp j tick s) quiet = absurd (true≢false quiet)

-- and its answer is what it means
pub change_said : (t : Table) (e : Event) → (about e).wakes ≡ false → fine (said_by (change_on t e).answer) ≡ fine (said t e)
change_said t (Beat tick) quiet = refl
change_said t (Open j tick s) quiet = go (has_room t)
  where
    go : (b : Bool) → fine (said_by (open_answer b)) ≡ fine (cond b says_token says_wait)
    go true = refl
    go false = refl
change_said t (Ask j tick s) quiet = go (forbids t (Ask j tick s))
  where
    go : (b : Bool) → fine (said_by (ask_answer b)) ≡ fine (cond b says_wait says_granted)
    go true = refl
    go false = refl
change_said t (Release j tick s) quiet = refl
change_said t (Complete j tick) quiet = absurd (true≢false quiet)
change_said t (GiveUp j tick s) quiet = absurd (true≢false quiet)

-- one that may wake others writes its row, and what the others wait for is settled again
pub loud_accepted :
    (t : Table) (e : Event) → (about e).wakes ≡ true →
    moved t (change_on t e).time (change_on t e).last.0 (settled_rows t.tokens t.rows (job_of e) (change_on t e).row) ≡ accepted t e
loud_accepted t (Beat tick) loud = absurd (true≢false (sym loud))
loud_accepted t (Open j tick s) loud = absurd (true≢false (sym loud))
loud_accepted t (Ask j tick s) loud = absurd (true≢false (sym loud))
loud_accepted t (Release j tick s) loud = absurd (true≢false (sym loud))
loud_accepted t (Complete j tick) loud = refl
loud_accepted t (GiveUp j tick s) loud = refl

-- and its answer is how many it woke
pub loud_said : (t : Table) (e : Event) → (about e).wakes ≡ true → said t e ≡ says_woke (length (wakes t e))
loud_said t (Beat tick) loud = absurd (true≢false (sym loud))
loud_said t (Open j tick s) loud = absurd (true≢false (sym loud))
loud_said t (Ask j tick s) loud = absurd (true≢false (sym loud))
loud_said t (Release j tick s) loud = absurd (true≢false (sym loud))
loud_said t (Complete j tick) loud = refl
loud_said t (GiveUp j tick s) loud = refl

-- ---- What soundness says that code relies on

module _ (t : Table) (ok : sound t ≡ true) where
  pub sound_last : t.last.0 < 2 ^ 63
  unfolding sound all
  sound_last =
      let numbers : (holds (ranges t.tokens t.resources t.limit) && holds (counters t.time t.last.0)) ≡ true =
      and_left _ (distinct t.rows) (and_left _ (all (sound_row t) t.rows) ok) in
      let both = and_right (holds (ranges t.tokens t.resources t.limit)) (holds (counters t.time t.last.0)) numbers in
      let last = and_left (leb t.last.0 highest) true (and_right (leb t.time highest) _ both) in
      omega (arith, leb-true t.last.0 highest last)

  -- every live row's turn was given
  given : (j : ℕ) → live (row_in t j) ≡ true → (row_in t j).turn.0 ≤ t.last.0
  unfolding sound all
  given j alive =
      let numbers = holds (ranges t.tokens t.resources t.limit) && holds (counters t.time t.last.0) in
      let row = all_each (sound_row t) idle refl t.rows (and_right (numbers && distinct t.rows) (all (sound_row t) t.rows) ok) j in
      leb-true (row_in t j).turn.0 t.last.0 (and_left _ _ (rw alive at row))

  -- all who are in line stand before the next turn
  pub all_ahead : length (line t.rows) ≡ ahead t.rows (t.last.0 + 1)
  unfolding ahead
  all_ahead =
      sym (count_every (line t.rows)) ∙ count_line (λ r. true) t.rows
      ∙ count_and_true live t.rows
      ∙ le_antisymm (count_mono (earlier (t.last.0 + 1)) idle refl live t.rows t.rows before)
      (count_mono live idle refl (earlier (t.last.0 + 1)) t.rows t.rows (λ j e. and_left _ _ e))
    where
      before : (j : ℕ) → live (row_in t j) ≡ true → earlier (t.last.0 + 1) (row_in t j) ≡ true
      before j e = turn_earlier (t.last.0 + 1) (row_in t j) (ltb-true 0 (row_in t j).turn.0 e) (omega (arith, given j e))
