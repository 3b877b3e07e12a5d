-- True time is real time at each of many ticks.
use Rattle.std.specs.Prelude.{◌∷◌, ◌≡◌}
use Rattle.event.specs.Prelude.{List, ap, fine, map, refl, ℕ}
use Rattle.event.specs.ClockLaws.{forward_real}
use Rattle.event.specs.Clock.{forwards, shown, Often, ended, then}

-- ticks taken often enough: true time is real time at each of them
pub forwards_real : {time : ℕ} {ns : List ℕ} → Often time ns → forwards time (map shown ns) ≡ map fine ns
unfolding forwards
forwards_real ended = refl
forwards_real (then {time = time} {n = n} low near last more) = rw (forward_real time n low near last) (ap (λ l. fine n ∷ l) (forwards_real more))
