-- What a survey of a table says about a question.
use Rattle.std.specs.Prelude.{◌≡◌}
use Rattle.asking.specs.Prelude.{Bool, Bounds, Event, Known, List, Listed, Report, Row, Seen, Survey, Surveyed, Table, ◌∙◌, ap, bounds_of, in_way, job_of, late_in, outcome, refusal_cases, reported, row_in, seen_by_lem, seen_in, sound, sound_by_lem, subst, survey_tells, true, waiting_by_lem, waiting_by, ℕ}

-- what is found from what is seen holds for the table
pub seen_tells :
    {A : Type 0} (t : Table) (e : Event) (v : Survey) → Surveyed (bounds_of t) t.rows (job_of e) v → (f : Seen → A) →
    outcome (refusal_cases v.seen e) (f v.seen) ≡ outcome (refusal_cases (seen_in t (job_of e)) e) (f (seen_in t (job_of e)))
seen_tells t e v survey f =
    let sees : sound t ≡ true → v.seen ≡ seen_in t (job_of e) =
    λ ok. (survey.known (sound_by_lem t ∙ ok)).sees ∙ seen_by_lem t (job_of e) in
    survey_tells t e v.seen _ _ (survey.told ∙ sound_by_lem t) sees (λ ok. ap f (sees ok))

-- who was listed by the numbers of a table was listed by the table
pub listed_by :
    (b : Bounds) (t : Table) → b ≡ bounds_of t → (rows : List Row) (time : ℕ) {n : ℕ} {before after : List ℕ} →
    Listed (late_in b.tokens b.limit time rows) before n after →
    Listed (late_in t.tokens t.limit time rows) before n after
listed_by b t e rows time {n} {before} {after} =
    subst (λ (x : Bounds). Listed (late_in x.tokens x.limit time rows) before n after) e

-- what is reported of a request follows from what was seen of it
pub report_is :
    (t : Table) (j : ℕ) (v : Survey) → Known (bounds_of t) t.rows j v → (w : Bool) (n : ℕ) →
    w ≡ waiting_by t.tokens v.standing v.seen.row →
    n ≡ in_way t.rows v.seen.row.turn.0 v.seen.row.declared →
    ◌≡◌ {A = Report}
    (record { turn = v.seen.row.turn; token = v.seen.token; waiting = w; ahead = v.standing.ahead; in_way = n })
    (reported t (row_in t j))
report_is t j v known w n waits blocks =
    let same = known.sees ∙ seen_by_lem t j in
    let waiting = waits ∙ ap (λ (s : Seen). waiting_by t.tokens v.standing s.row) same ∙ waiting_by_lem t.tokens t.rows v.standing (row_in t j) known.stands in
    let before = known.stands.before in
    let between = blocks ∙ ap (λ (s : Seen). in_way t.rows s.row.turn.0 s.row.declared) same in
    λ i.
    record {
      turn = (same i).row.turn;
      token = (same i).token;
      waiting = waiting i;
      ahead = before i;
      in_way = between i;
    }
