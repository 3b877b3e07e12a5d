-- How the counts of the order change with the rows.
use Rattle.std.specs.Prelude.{◌+◌, ◌<◌, ◌||◌, ◌≡◌}
use Rattle.rows.specs.Prelude.{Bool, List, Row, ◌∙◌, all, all_map, ap, bit, count, count_map, count_set, eqb, fun_ext, get_or, length, map, not, refl, set, sym, ℕ}
use Rattle.rows.specs.Order.{idle, live, earlier, ahead, claims, in_way, bears, alone, distinct}
use Rattle.rows.specs.Propositions.{opening_of}

-- when one row is set
module _ (rows : List Row) (j : ℕ) (x : Row) (below : j < length rows) (n : ℕ) where
  pub ahead_set : ahead (set rows j x) n + bit (earlier n (get_or rows j idle)) ≡ ahead rows n + bit (earlier n x)
  unfolding ahead
  ahead_set = count_set (earlier n) rows j x idle below

  pub in_way_set :
      (s : ℕ) → in_way (set rows j x) n s + bit (claims n s (get_or rows j idle)) ≡ in_way rows n s + bit (claims n s x)
  unfolding in_way
  in_way_set s = count_set (claims n s) rows j x idle below

-- when every row keeps its turn and its declared set
module _ (f : Row → Row) (keeps : (r : Row) → opening_of (f r) ≡ opening_of r) (rows : List Row) where
  -- as many pass any test that looks at nothing else
  pub count_kept : (g : Row → Bool) → ((r : Row) → g (opening_of r) ≡ g r) → count g (map f rows) ≡ count g rows
  count_kept g by =
      count_map g f rows ∙ ap (λ (h : Row → Bool). count h rows) (fun_ext (λ r. sym (by (f r)) ∙ ap g (keeps r) ∙ by r))

  pub ahead_map : (n : ℕ) → ahead (map f rows) n ≡ ahead rows n
  unfolding ahead
  ahead_map n = count_kept (earlier n) (λ r. refl)

  pub in_way_map : (n s : ℕ) → in_way (map f rows) n s ≡ in_way rows n s
  unfolding in_way
  in_way_map n s = count_kept (claims n s) (λ r. refl)

  bearers_map : (n : ℕ) → count (bears n) (map f rows) ≡ count (bears n) rows
  bearers_map n = count_kept (bears n) (λ r. refl)

  pub distinct_map : distinct (map f rows) ≡ distinct rows
  unfolding distinct
  distinct_map =
      all_map (alone (map f rows)) f rows
      ∙ (λ i. all (λ r. not (live (keeps r i)) || eqb (bearers_map (keeps r i).turn.0 i) 1) rows)
