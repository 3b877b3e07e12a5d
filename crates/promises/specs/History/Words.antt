-- Whole histories: which events are accepted, whom they list as woken, and which requests complete or part in their course.
use Rattle.std.specs.Prelude.{ℕ, ◌+◌, ◌≤◌, ◌<◌, Bool, true, false, cond, not, ◌&&◌, List, [], ◌∷◌, ◌≡◌, eqb, length}
use Rattle.event.specs.declared.clock.Tick.{Tick}
use Rattle.event.specs.declared.events.Event.{Event}
use Rattle.event.specs.declared.events.Event.TheVariants.{Ask, Beat, Complete, GiveUp, Open, Release}
use Rattle.laws.specs.Bools.{bit}
use Rattle.laws.specs.Lists.{count}
use Rattle.laws.specs.Sets.{meets, union, without}
use Rattle.rows.specs.Order.{claims}
use Rattle.laws.specs.Cases.{Outcome, refused, fine}
use Rattle.event.specs.Limits.{jobs}
use Rattle.rows.specs.declared.row.Row.{Row}
use Rattle.arbiter.specs.Meaning.{answer, next, wakes, report}
use Rattle.arbiter.specs.declared.table.Table.{Table}
use Rattle.arbiter.specs.Sound.{row_in}
use Rattle.arbiter.specs.Answers.{Said}
use Rattle.arbiter.specs.declared.table.Report.{Report}

-- an answer is no refusal
abbrev pub is_fine : {A : Type 0} → Outcome A → Bool
is_fine (refused n) = false
is_fine (fine a) = true

-- the jobs that an event lists as woken; a refused one lists none
abbrev pub lists : Table → Event → List ℕ
lists t e = cond (is_fine (answer jobs t e)) (wakes t e) []

-- an arbiter, as far as demand 3 looks at one: what an event is answered, to which table it leads, whom it lists as woken,
-- and what is reported of a job
pub record Arbiter : Type 0 where
  pub answer : Table → Event → Outcome Said
  pub next : Table → Event → Table
  pub lists : Table → Event → List ℕ
  pub report : Table → ℕ → Outcome Report

-- ours, as the meanings say it
abbrev pub ours : Arbiter
ours = record { answer = answer jobs; next = next jobs; lists = lists; report = report }

-- an event is accepted
abbrev pub takes : Arbiter → Table → Event → Bool
takes a t e = is_fine (a.answer t e)

-- the sum of a number for each accepted event and the table that it meets, over a whole sequence of events
unfoldable pub tally_of : Arbiter → (Table → Event → ℕ) → Table → List Event → ℕ
tally_of a number t [] = 0
tally_of a number t (e ∷ es) = cond (takes a t e) (number t e) 0 + tally_of a number (a.next t e) es

-- how many requests whose row passes f an event completes: at most one by a completion, none by any other event
abbrev pub completing_by : (Row → Bool) → Table → Event → ℕ
completing_by f t (Beat tick) = 0
completing_by f t (Open k tick s) = 0
completing_by f t (Ask k tick s) = 0
completing_by f t (Release k tick s) = 0
completing_by f t (Complete k tick) = bit (f (row_in t k))
completing_by f t (GiveUp k tick s) = 0

-- the accepted completions of requests whose row passes f, over a whole sequence of events
abbrev pub completions_of : Arbiter → (Row → Bool) → Table → List Event → ℕ
completions_of a f = tally_of a (completing_by f)

-- the accepted ones of a sequence of events
unfoldable pub heeded_by : Arbiter → Table → List Event → List Event
heeded_by a t [] = []
heeded_by a t (e ∷ es) = cond (takes a t e) (e ∷ heeded_by a (a.next t e) es) (heeded_by a (a.next t e) es)

-- ---- Who parts from a request, and what it still declares

-- r is in the way of job j's request: an earlier-opened live row that declares something that the request still declares
abbrev pub in_its_way : Table → ℕ → Row → Bool
in_its_way t j r = claims (row_in t j).turn.0 (row_in t j).declared r

-- r is in its way, and what r has left when it gives up s shares nothing with what the request declares
abbrev pub parts_by_other : Table → ℕ → ℕ → Row → Bool
parts_by_other t j s r = in_its_way t j r && not (meets (without r.declared s) (row_in t j).declared)

-- r is in its way, and shares nothing with what the request has left when it gives up s itself
abbrev pub parts_by_own : Table → ℕ → ℕ → Row → Bool
parts_by_own t j s r = in_its_way t j r && not (meets r.declared (without (row_in t j).declared s))

-- job k's request parts from job j's by an event: it is in its way and completes, or one of the two gives up the last they share
pub data Parts (t : Table) (j k : ℕ) : Event → Type 0 where
  by_completion : (tick : Tick) → in_its_way t j (row_in t k) ≡ true → Parts t j k (Complete k tick)
  by_give_up : (tick : Tick) (s : ℕ) → parts_by_other t j s (row_in t k) ≡ true → Parts t j k (GiveUp k tick s)
  by_own : (tick : Tick) (s : ℕ) → parts_by_own t j s (row_in t k) ≡ true → Parts t j k (GiveUp j tick s)

-- how many part from job j's request by an accepted event, found from the event and the rows before it: one in its way that
-- completes; one in its way that gives up the last they share; and by the request's own give up, all in its way with whom it
-- then shares nothing
abbrev pub parting_by : Table → ℕ → Event → ℕ
parting_by t j (Beat tick) = 0
parting_by t j (Open k tick s) = 0
parting_by t j (Ask k tick s) = 0
parting_by t j (Release k tick s) = 0
parting_by t j (Complete k tick) = bit (in_its_way t j (row_in t k))
parting_by t j (GiveUp k tick s) = cond (eqb k j) (count (parts_by_own t j s) t.rows) (bit (parts_by_other t j s (row_in t k)))

-- and over a whole sequence of events
abbrev pub partings_of : Arbiter → ℕ → Table → List Event → ℕ
partings_of a j = tally_of a (λ t. parting_by t j)

-- what job j gives up by an event
abbrev pub given_up_by : ℕ → Event → ℕ
given_up_by j (Beat tick) = 0
given_up_by j (Open k tick s) = 0
given_up_by j (Ask k tick s) = 0
given_up_by j (Release k tick s) = 0
given_up_by j (Complete k tick) = 0
given_up_by j (GiveUp k tick s) = cond (eqb k j) s 0

-- and by all accepted ones of a sequence of events
unfoldable pub given_up_of : Arbiter → ℕ → Table → List Event → ℕ
given_up_of a j t [] = 0
given_up_of a j t (e ∷ es) = union (cond (takes a t e) (given_up_by j e) 0) (given_up_of a j (a.next t e) es)

-- ---- By ours

-- an event is accepted by ours
abbrev pub taken : Table → Event → Bool
taken = takes ours

-- the completions of requests whose row passes f, over a sequence of events
abbrev pub completions : (Row → Bool) → Table → List Event → ℕ
completions = completions_of ours

-- how many part from job j's request over a sequence of events
abbrev pub partings : ℕ → Table → List Event → ℕ
partings = partings_of ours

-- what job j gives up over a sequence of events
abbrev pub given_up : ℕ → Table → List Event → ℕ
given_up = given_up_of ours

-- the events that ours accepts
abbrev pub heeded : Table → List Event → List Event
heeded = heeded_by ours

-- ---- What every table of a history keeps

-- it has a row for each job and T tokens, and turn n has been given
pub record Along (T n : ℕ) (t : Table) : Type 0 where
  pub wide : length t.rows ≡ jobs
  pub tokens : t.tokens ≡ T
  pub given : n ≤ t.last.0

-- the row of job j is that of the request of turn n, a turn that has been given
pub record Bears (T n j : ℕ) (t : Table) : Type 0 where
  pub along : Along T n t
  pub some : 0 < n
  pub turn : (row_in t j).turn.0 ≡ n
