-- Those in the way are as many as are counted, and there is one exactly where Q3 forbids the set.
use Rattle.std.specs.Prelude.{◌≡◌}
use Rattle.hindering.specs.Prelude.{List, Row, ◌∙◌, ap, blocked, claims_ahead, count_and_true, count_every, count_keep, in_way_line, in_way, keep, length, line, ltb, sym, true, ℕ}
use Rattle.hindering.specs.Hindering.{claimants_before}

-- as many are listed as are in the way
pub hinderers_counted : (rows : List Row) (n s : ℕ) → length (claimants_before rows n s) ≡ in_way rows n s
unfolding claimants_before
hinderers_counted rows n s =
    sym (count_every (keep (claims_ahead rows n s) (line rows)))
    ∙ count_keep (claims_ahead rows n s) (λ _. true) (line rows)
    ∙ count_and_true (claims_ahead rows n s) (line rows)
    ∙ in_way_line rows n s

-- somebody is listed exactly where a live row of lower turn declares some member of the set
pub hindered_blocked : (rows : List Row) (n s : ℕ) → ltb 0 (length (claimants_before rows n s)) ≡ blocked rows n s
hindered_blocked rows n s = ap (ltb 0) (hinderers_counted rows n s)
