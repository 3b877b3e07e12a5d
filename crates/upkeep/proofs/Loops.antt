-- Going along a line for a job's standing, place by place.
use Rattle.std.specs.Prelude.{◌+◌, ◌<◌, ◌∷◌, ◌≡◌, ◌≢◌, ◌≤◌}
use Rattle.upkeep.specs.Prelude.{List, Standing, ◌∙◌, add-one, drop, drop-cons, drop_of_length-le, eq-eqb, front, get_or, length, ne_eqb, union, ℕ}
use Rattle.upkeep.specs.Upkeep.{standing_in}

-- the standing with p jobs before it that declare these sets
abbrev pub at : ℕ → ℕ → Standing
at p claims = record { ahead = p; claims = claims }

module _ (column : List ℕ) (k : ℕ) (l : List ℕ) (p claims : ℕ) where
  -- what is found from place p on, with these claims before it
  abbrev pub from_here : Standing
  from_here = standing_in column k (at p claims) (drop p l)

  module _ (within : p < length l) where
    step : from_here ≡ standing_in column k (at p claims) (get_or l p 0 ∷ drop (p + 1) l)
    step = rw (add-one, drop-cons l p 0 within)

    -- the job is here
    pub standing_here : get_or l p 0 ≡ k → from_here ≡ at p claims
    unfolding standing_in
    standing_here e = step ∙ rw (eq-eqb (get_or l p 0) k e)

    -- another is, and it stands before all that follow
    pub standing_next : get_or l p 0 ≢ k → from_here ≡ standing_in column k (at (p + 1) (union claims (get_or column (get_or l p 0) 0))) (drop (p + 1) l)
    unfolding standing_in
    standing_next e = step ∙ rw (ne_eqb (get_or l p 0) k e)

  -- the job is not in line
  pub standing_none : length l ≤ p → from_here ≡ front
  unfolding standing_in
  standing_none out = rw (drop_of_length-le l out)
