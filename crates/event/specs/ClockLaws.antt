-- True time is real time, wraps and all.
use Rattle.std.specs.Prelude.{◌%◌, ◌+◌, ◌<◌, ◌^◌, ◌≡◌, ◌≤◌}
use Rattle.event.specs.Prelude.{acceptance_tells, ap, arith, case, clear, fine, le-ltb, lt-leb, ltb-false, outcome_is, past, refl, sym, ℕ, ◌∙◌}
use Rattle.laws.specs.Chains.{none}
use Rattle.event.specs.Limits.{highest}
use Rattle.event.specs.Clock.{difference, hour, clock_cases, forward, shown}

-- the low 32 bits of an accepted time are the tick that gave it
pub forward_low : (time tick n : ℕ) → tick < 2 ^ 32 → forward time tick ≡ fine n → n % 2 ^ 32 ≡ tick
unfolding forward
forward_low time tick n h e =
    let sum = (acceptance_tells {B = ℕ} (clock_cases time tick) (time + difference time tick) n e).1 in
    omega arith

-- an accepted tick leads at most an hour on
pub forward_near : (time tick n : ℕ) → forward time tick ≡ fine n → (time ≤ n) × (n ≤ time + hour)
unfolding forward case
forward_near time tick n e =
    let told = acceptance_tells {B = ℕ} (clock_cases time tick) (time + difference time tick) n e in
    let near = ltb-false hour (difference time tick) (clear 23 (clock_cases time tick) refl told.0) in
    let sum = told.1 in
    (omega arith, omega arith)

-- the difference to the tick of a real time less than a round of the counter on leads there
pub moved_on : (time n : ℕ) → time ≤ n → n < time + 2 ^ 32 → time + difference time (shown n) ≡ n
moved_on time n low near = omega arith

-- the tick of a real time that is at most an hour on gives that time
pub forward_real :
    (time n : ℕ) → time ≤ n → n ≤ time + hour → n ≤ highest → forward time (shown n) ≡ fine n
unfolding forward
forward_real time n low near last =
    let sum = moved_on time n low (omega arith) in
    let forth = lt-leb (2 ^ 31) (difference time (shown n)) (omega arith) in
    let Near-by = le-ltb hour (difference time (shown n)) (omega arith) in
    let within = le-ltb highest (time + difference time (shown n)) (omega arith) in
    sym (outcome_is _ (past forth (past Near-by (past within none)))) ∙ ap fine sum
