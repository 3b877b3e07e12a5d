-- Questions along the line: a job's place tells its token, and who is in the way is found in line.
use Rattle.std.specs.Prelude.{◌&&◌, ◌+◌, ◌-◌, ◌<◌, ◌||◌, ◌≡◌}
use Rattle.questions.specs.Prelude.{Bool, Distinct, List, Row, ◌∙◌, and_assoc, and_comm, ap, arith, count, count_line, false, fun_ext, get_or, in_way, late_since, le-leb, leb, length, line, line_places, live, lt-leb, lt-ltb, ltb, ltb-false, ltb-true, meets, not, refl, row_of, sym, true, waiting, ℕ}
use Rattle.questions.specs.InCode.{claims_ahead, waits_before}
use Rattle.questions.specs.Late.{late_job}

-- a wait is the limit or more exactly if it began before waits are in time
in_time : (limit time since : ℕ) → 0 < limit → leb limit (time - since) ≡ ltb since (time + 1 - limit)
in_time limit time since some = go (ltb since (time + 1 - limit)) refl
  where
    go : (b : Bool) → ltb since (time + 1 - limit) ≡ b → leb limit (time - since) ≡ b
    go true e = le-leb limit (time - since) (omega (arith, ltb-true since (time + 1 - limit) e))
    go false e = lt-leb limit (time - since) (omega (arith, ltb-false since (time + 1 - limit) e))

-- who waits since before then is overdue
pub late_before :
    (T limit time : ℕ) (rows : List Row) → 0 < limit → waits_before T (time + 1 - limit) rows ≡ late_job T limit time rows
late_before T limit time rows some =
    fun_ext
    (λ j.
    and_comm (ltb (row_of rows j).since (time + 1 - limit)) (waiting T rows (row_of rows j))
    ∙ ap (λ (b : Bool). waiting T rows (row_of rows j) && b) (sym (in_time limit time (row_of rows j).since some)))

-- in a line of distinct turns the job at place p has a token if p is below T
pub late_place :
    (T from : ℕ) (rows : List Row) → Distinct rows → (p j : ℕ) → p < length (line rows) → get_or (line rows) p 0 ≡ j →
    waits_before T from rows j ≡ late_since (ltb p T) from (row_of rows j)
late_place T from rows apart p j within here =
    let place = line_places rows apart p within in
    let alive = rw here at place.0 in
    let before = rw here at place.1 in
    let r = row_of rows j in
    λ i. ltb r.since from && (lt-ltb 0 r.turn.0 alive i && (not (ltb (before i) T) || ltb 0 r.asked))

-- as many of the line are of lower turn and declare some member as are in the way
pub in_way_line : (rows : List Row) (n s : ℕ) → count (claims_ahead rows n s) (line rows) ≡ in_way rows n s
unfolding in_way
in_way_line rows n s =
    count_line (λ r. ltb r.turn.0 n && meets r.declared s) rows
    ∙ ap (λ (g : Row → Bool). count g rows) (fun_ext (λ r. sym (and_assoc (live r) (ltb r.turn.0 n) (meets r.declared s))))
