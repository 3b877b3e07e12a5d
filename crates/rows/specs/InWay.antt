-- Who is in the way, by name: the reading of Q3 by rows and resources.
use Rattle.std.specs.Prelude.{◌<◌, ◌≡◌, ◌≤◌}
use Rattle.rows.specs.Prelude.{Bool, List, Row, ◌∙◌, and-eq-true_iff, and_left, arith, count_at, count_mono, count_some, false, false≢true, inside, inside_reads, meets, meets_reads, member, member_empty, member_union, refl, sym, true, union, ℕ}
use Rattle.rows.specs.Line.{row_of}
use Rattle.rows.specs.Order.{ahead, claims, earlier, idle, in_way}
use Rattle.rows.specs.Turns.{earlier_turn, turn_earlier}
use Rattle.rows.specs.Propositions.{InTheWay}

module _ (rows : List Row) (n : ℕ) where
  -- where the number in the way is above 0, here is one of them; and back
  pub in_way_some : (s : ℕ) → 0 < in_way rows n s → InTheWay rows n s
  unfolding in_way
  in_way_some s h =
      let p = count_some (claims n s) idle rows h in
      let r = row_of rows p.0 in
      let both = (and-eq-true_iff (earlier n r) (meets r.declared s)).0 p.1 in
      let stands = earlier_turn n r both.0 in
      let shared = (meets_reads r.declared s).holds.0 both.1 in
      record {
        job = p.0;
        alive = stands.0;
        before = stands.1;
        resource = shared.0;
        declared = shared.1;
        wanted = shared.2;
      }

  pub in_way_at : (s : ℕ) → InTheWay rows n s → 0 < in_way rows n s
  unfolding in_way
  in_way_at s w =
      let r = row_of rows w.job in
      count_at (claims n s) idle refl rows w.job
      (rw (turn_earlier n r w.alive w.before)
      ((meets_reads r.declared s).holds.1 (w.resource, w.declared, w.wanted)))

  -- of a higher turn no fewer stand before it
  pub ahead_mono : (m : ℕ) → n ≤ m → ahead rows n ≤ ahead rows m
  unfolding ahead
  ahead_mono m h =
      count_mono (earlier m) idle refl (earlier n) rows rows
      (λ k e. let p = earlier_turn n (row_of rows k) e in turn_earlier m (row_of rows k) p.0 (omega arith))

  -- whoever is in the way is ahead
  pub in_way_ahead : (s : ℕ) → in_way rows n s ≤ ahead rows n
  unfolding ahead in_way
  in_way_ahead s =
      count_mono (earlier n) idle refl (claims n s) rows rows
      (λ k e. and_left (earlier n (row_of rows k)) (meets (row_of rows k).declared s) e)

  -- whoever is in the way at s by a member of u is in the way at u, so u cannot be free
  not_free : {s : ℕ} (w : InTheWay rows n s) (u : ℕ) → member u w.resource ≡ true → ¬ (in_way rows n u ≡ 0)
  not_free w u m none =
      let at-u =
      in_way_at u
      (record { job = w.job; alive = w.alive; before = w.before; resource = w.resource; declared = w.declared; wanted = m }) in
      omega arith

  free : (s : ℕ) → ¬ (InTheWay rows n s) → in_way rows n s ≡ 0
  free s nobody = let none : ¬ (0 < in_way rows n s) = λ h. nobody (in_way_some s h) in omega arith

  pub in_way_empty : in_way rows n 0 ≡ 0
  in_way_empty = free 0 (λ w. false≢true (sym (member_empty w.resource) ∙ w.wanted))

  -- nobody is in the way at a part of a set, or at two sets together, where nobody is at the whole, or at each
  pub in_way_inside : (s u : ℕ) → inside s u ≡ true → in_way rows n u ≡ 0 → in_way rows n s ≡ 0
  in_way_inside s u i none = free s (λ w. not_free w u ((inside_reads s u).holds.0 i w.resource w.wanted) none)

  pub in_way_union : (s u : ℕ) → in_way rows n s ≡ 0 → in_way rows n u ≡ 0 → in_way rows n (union s u) ≡ 0
  in_way_union s u p q = free (union s u) (λ w. go w (member s w.resource) refl)
    where
      go : (w : InTheWay rows n (union s u)) (b : Bool) → member s w.resource ≡ b → ⊥
      go w true e = not_free w s e p
      go w false e = not_free w u (rw (member_union, e) at w.wanted) q
