-- True time is real time, on a table and along any sequence of events.
use Rattle.std.specs.Prelude.{◌∷◌, ◌≡◌}
use Rattle.promises.specs.Prelude.{List, Table, [], accepted, ap, arith, cond, course, map, refl, run, sym, tick_of, time_at, ℕ, ◌∙◌}
use Rattle.event.specs.declared.events.Event.{Event}
use Rattle.event.specs.Clock.{Often, latest, shown, then}
use Rattle.event.specs.ClockLaws.{moved_on}
use Rattle.promises.specs.History.Words.{heeded, heeded_by}
use Rattle.promises.proofs.History.Events.{next_either}

-- on a table whose true time is real time, let ns be the real times of the events that are accepted, which the counter shows in
-- their ticks; as long as each comes at most an hour after the one before, and none before it, true time is the last of them,
-- whatever is refused in between and however often the counter wraps (any distance below a round of the counter would do, but
-- further than an hour on no tick is taken: `forward_near`)
pub time_is_real :
    (t : Table) (es : List Event) (ns : List ℕ) → map tick_of (heeded t es) ≡ map shown ns → Often t.time ns →
    (run t es).time ≡ latest t.time ns
unfolding course heeded_by
time_is_real t [] [] ticks often = refl
time_is_real t [] (n ∷ ns) ticks often = let z : ◌≡◌ {A = ℕ} 0 1 = cc in absurd (omega arith)
time_is_real t (e ∷ es) ns ticks often =
    next_either t e
    (λ b u. map tick_of (cond b (e ∷ heeded u es) (heeded u es)) ≡ map shown ns → (run u es).time ≡ latest t.time ns)
    (λ ok ticks. go ns ticks often (time_is_real (accepted t e) es))
    (λ ticks. time_is_real t es ns ticks often)
    ticks
  where
    u : Table
    u = accepted t e

    go :
        (ns : List ℕ) → map tick_of (e ∷ heeded u es) ≡ map shown ns → Often t.time ns →
        ((ns : List ℕ) → map tick_of (heeded u es) ≡ map shown ns → Often u.time ns → (run u es).time ≡ latest u.time ns) →
        (run u es).time ≡ latest t.time ns
    go [] ticks often more = let z : ◌≡◌ {A = ℕ} 0 1 = cc in absurd (omega arith)
    go (n ∷ ns) ticks (then soon near last often) more =
        let tick : tick_of e ≡ shown n = cc in
        let rest : map tick_of (heeded u es) ≡ map shown ns = cc in
        let is : u.time ≡ n = ap (time_at t) tick ∙ moved_on t.time n soon (omega (arith, near)) in
        rw (sym is) (more ns rest (rw is often))
