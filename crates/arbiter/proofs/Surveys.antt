-- What a survey of a table says about an event.
use Rattle.std.specs.Prelude.{◌<◌, ◌^◌, ◌≡◌}
use Rattle.arbiter.specs.Prelude.{Bool, Bounds, Event, Known, Lines, List, Row, Seen, Settles, Survey, Surveyed, Swept, Table, ◌∙◌, ap, job_of, ltb, meets, outcome, set_of, subst, sym, true, ℕ}
use Rattle.arbiter.specs.ChangeLaws.{all_ahead, change_on, forbids, has_room, seen_by_lem, sound_by_lem, sound_last}
use Rattle.decision.specs.Changes.{change_for, refusal_cases}
use Rattle.arbiter.specs.Bounded.{bounds_of}
use Rattle.arbiter.specs.Refusals.{seen_in}
use Rattle.arbiter.specs.Sound.{sound}
use Rattle.arbiter.proofs.Carrying.{decides_by}

module _ (t : Table) (e : Event) (v : Survey) (survey : Surveyed (bounds_of t) t.rows (job_of e) v) where
  module _ (ok : sound t ≡ true) where
    known : Known (bounds_of t) t.rows (job_of e) v
    known = survey.known (sound_by_lem t ∙ ok)

    pub forbidden_tells : meets v.standing.claims (set_of e) ≡ forbids t e
    forbidden_tells = known.stands.forbids (set_of e)

    pub room_tells : ltb v.line.len t.tokens ≡ has_room t
    room_tells = ap (λ (n : ℕ). ltb n t.tokens) (known.lines.number ∙ all_ahead t ok)

  -- what an event comes to by what is seen is what it comes to on the table
  pub comes_to :
      (forbidden token : Bool) → forbidden ≡ meets v.standing.claims (set_of e) → token ≡ ltb v.line.len t.tokens →
      outcome (refusal_cases v.seen e) (change_for v.seen forbidden token e)
      ≡ outcome (refusal_cases (seen_in t (job_of e)) e) (change_on t e)
  comes_to forbidden token p q =
      decides_by t e v.seen forbidden token (survey.told ∙ sound_by_lem t) (λ ok. (known ok).sees ∙ seen_by_lem t (job_of e))
      (λ ok. p ∙ forbidden_tells ok) (λ ok. q ∙ room_tells ok)

-- the last turn that is seen of a sound table is in range
pub last_seen :
    (t : Table) (j : ℕ) (v : Survey) → Surveyed (bounds_of t) t.rows j v → v.seen.sound ≡ true → v.seen.last.0 < 2 ^ 63
last_seen t j v survey ok =
    let sound = sym survey.told ∙ ok in
    subst (λ (s : Seen). s.last.0 < 2 ^ 63) (sym (survey.known sound).sees) (sound_last t (sym (sound_by_lem t) ∙ sound))

-- of a sound table the line that was found is its own
pub line_seen :
    (t : Table) (j : ℕ) (v : Survey) → Surveyed (bounds_of t) t.rows j v → sound t ≡ true → Lines t.rows v.line
line_seen t j v survey ok = (survey.known (sound_by_lem t ∙ ok)).lines

-- ---- What was done by the numbers of a table was done by the table

module _ (b : Bounds) (t : Table) (e : b ≡ bounds_of t) where
  pub surveyed_by : {rows : List Row} {j : ℕ} {v : Survey} → Surveyed b rows j v → Surveyed (bounds_of t) rows j v
  surveyed_by {rows} {j} {v} = subst (λ (x : Bounds). Surveyed x rows j v) e

  pub settled_by :
      {rows : List Row} {k : ℕ} {row : Row} {before after : List ℕ} {swept : Swept} → Settles b.tokens rows k row before swept after →
      Settles t.tokens rows k row before swept after
  settled_by {rows} {k} {row} {before} {after} {swept} =
      subst (λ (x : Bounds). Settles x.tokens rows k row before swept after) e
