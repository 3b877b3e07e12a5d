-- One row after an event that may wake others: what the sweep makes of it, and whether it wakes.
use Rattle.std.specs.Prelude.{◌&&◌, ◌-◌, ◌<◌, ◌||◌, ◌≡◌, ◌≤◌}
use Rattle.sweep.specs.Prelude.{Bool, List, Row, Standing, Stands, Turn, ◌∙◌, ahead, ahead_settled, and-false, and-true, ap, arith, blocked, cond, either, eq-eqb, eqb, false, goes_on, idle, in_way_empty, in_way, inl, inr, keep, le-zero, length_settled, line, live, lt-ltb, ltb, ltb-false, ltb-true, ne_eqb, not, or_comm, refl, rested_row, row_settled, row_of, settled, swept_idle, swept_row, sym, true, turn_settled, union, union_empty, waiting, waiting_reads, wakes_by, woke, woken, ℕ}
use Rattle.sweep.specs.Walking.{live_in}
use Rattle.sweep.specs.Written.{MovedUp, Written, as_many, gone_behind, one_fewer}
use Rattle.sweep.specs.Leaving.{keep_within, line_kept, line_turns}

module _ {A : Type 0} (x y : A) where
  chosen : (b : Bool) → b ≡ true → cond b x y ≡ x
  chosen b e = ap (λ (b : Bool). cond b x y) e

  other : (b : Bool) → b ≡ false → cond b x y ≡ y
  other b e = ap (λ (b : Bool). cond b x y) e

-- ---- What the sweep makes of a live row

module _ (T : ℕ) (rows : List Row) (r : Row) (alive : 0 < r.turn.0) where
  -- while what it asks for is forbidden, it waits on
  swept_blocked : blocked rows r.turn.0 r.asked ≡ true → (swept_row T rows r ≡ r) × (waiting T rows r ≡ true)
  swept_blocked e =
      let some : ¬ (r.asked ≡ 0) = λ none.
      omega (arith, ltb-true 0 (in_way rows r.turn.0 r.asked) e, ap (in_way rows r.turn.0) none, in_way_empty rows r.turn.0) in
      let waits = (waiting_reads T rows r alive).holds.1 (inr (omega arith)) in
      (ap (rested_row T rows) (chosen r _ (blocked rows r.turn.0 r.asked) e) ∙ chosen r _ (waiting T rows r) waits, waits)

  -- where it is allowed and the row has a token, it goes on
  swept_free : blocked rows r.turn.0 r.asked ≡ false → ahead rows r.turn.0 < T → swept_row T rows r ≡ goes_on r
  swept_free e token =
      let granted : Row = record { turn = r.turn; declared = r.declared; held = union r.held r.asked; asked = 0; since = r.since } in
      ap (rested_row T rows) (other r granted (blocked rows r.turn.0 r.asked) e)
      ∙ other granted _ (waiting T rows granted) ((waiting_reads T rows granted alive).fails.1 (token, refl))

  -- without a token, it waits on if it asks for nothing
  swept_far : r.asked ≡ 0 → T ≤ ahead rows r.turn.0 → (swept_row T rows r ≡ r) × (waiting T rows r ≡ true)
  swept_far none far =
      let waits = (waiting_reads T rows r alive).holds.1 (inl far) in
      let granted : Row = record { turn = r.turn; declared = r.declared; held = union r.held r.asked; asked = 0; since = r.since } in
      let held : union r.held r.asked ≡ r.held = ap (union r.held) none ∙ union_empty r.held in
      let same : granted ≡ r =
      λ i. record { turn = r.turn; declared = r.declared; held = held i; asked = sym none i; since = r.since } in
      (ap (rested_row T rows) (either (λ x. x) (blocked rows r.turn.0 r.asked) r granted same) ∙ chosen r _ (waiting T rows r) waits, waits)

-- a request that asks for nothing and has no waiting time goes on as it is
still : (r : Row) → r.asked ≡ 0 → r.since ≡ 0 → goes_on r ≡ r
still r asked since =
    let held : union r.held r.asked ≡ r.held = ap (union r.held) asked ∙ union_empty r.held in
    λ i. record { turn = r.turn; declared = r.declared; held = held i; asked = sym asked i; since = sym since i }

-- ---- Who waited before

-- no fewer stood before it
no_fewer : {T before after : ℕ} {up : Bool} → MovedUp T before after up → after ≤ before
no_fewer (one_fewer e) = omega arith
no_fewer (gone_behind e _) = omega arith
no_fewer (as_many e) = omega arith

-- whoever has a token now had none exactly if the line moved up and it is the last that has one
tokenless : {T before after : ℕ} {up : Bool} → after < T → MovedUp T before after up → not (ltb before T) ≡ (up && eqb (T - after) 1)
tokenless {T} {before} {after} token (one_fewer e) = go (ltb before T) refl
  where
    go : (b : Bool) → ltb before T ≡ b → not b ≡ eqb (T - after) 1
    go true h = sym (ne_eqb (T - after) 1 (λ last. omega (arith, ltb-true before T h, last)))
    go false h = sym (eq-eqb (T - after) 1 (omega (arith, ltb-false before T h)))
tokenless {T} {before} {after} token (gone_behind e near) =
    ap not (lt-ltb before T (omega arith)) ∙ sym (ne_eqb (T - after) 1 (λ last. omega (arith, last)))
tokenless {T} {before} {after} token (as_many e) = ap not (lt-ltb before T (omega arith))

-- ---- The rows after the sweep

module _ {up : Bool} {T : ℕ} {rows w : List Row} (written : Written up T rows w) where
  -- whether a row waits after the sweep, found from the rows before it
  waiting_settled : (r : Row) → waiting T (settled T w) r ≡ waiting T w r
  waiting_settled r = λ i. live r && (not (ltb (ahead_settled T w r.turn.0 i) T) || ltb 0 r.asked)

  module _ (j : ℕ) where
    abbrev row : Row
    row = row_of w j

    -- it has waited
    abbrev did : Bool
    did = waiting T rows (row_of rows j)

    -- its row is as it was written, and it is not woken
    abbrev Stays : Type 0
    Stays = (row_of (settled T w) j ≡ row) × (woke T rows (settled T w) j ≡ false)

    woke_row : woke T rows (settled T w) j ≡ (did && not (waiting T w (swept_row T w row)))
    woke_row =
        ap (λ (b : Bool). did && not b)
        (waiting_settled (row_of (settled T w) j) ∙ ap (waiting T w) (row_settled T w j))

    waits_on : swept_row T w row ≡ row → waiting T w row ≡ true → Stays
    waits_on swept waits = (
      row_settled T w j ∙ swept,
      woke_row ∙ ap (λ (r : Row). did && not (waiting T w r)) swept ∙ ap (λ (b : Bool). did && not b) waits ∙ and-false did,
    )

    -- an idle row stays so
    pub after_idle : live_in w j ≡ false → Stays
    after_idle none =
        let zero : row ≡ idle = (written.each j).steady.zero (le-zero (ltb-false 0 row.turn.0 none)) in
        let did-not : did ≡ false = (written.each j).waits ∙ ap (waiting T rows) zero in (
          row_settled T w j ∙ ap (swept_row T w) zero ∙ swept_idle T w ∙ sym zero,
          ap (λ (b : Bool). b && not (waiting T (settled T w) (row_of (settled T w) j))) did-not,
        )

    module _ (alive : 0 < row.turn.0) where
      -- from the place T on nothing changes
      pub after_far : T ≤ ahead w row.turn.0 → Stays
      after_far far =
          let quiet = (written.each j).steady.quiet alive (omega (arith, no_fewer (written.moved j alive))) in
          let swept = swept_far T w row alive quiet far in
          waits_on swept.0 swept.1

      module _ (s : Standing) (stands : Stands w row.turn.0 s) (token : s.ahead < T) where
        -- before it, whoever wakes goes on, and everybody else stays as it is
        pub after_near :
            (row_of (settled T w) j ≡ cond (wakes_by up T s row) (goes_on row) row)
            × (woke T rows (settled T w) j ≡ wakes_by up T s row)
        after_near = go (blocked w row.turn.0 row.asked) refl
          where
            token_now : ahead w row.turn.0 < T
            token_now = omega (arith, stands.before)

            may : Bool
            may = ltb 0 row.asked || (up && eqb (T - s.ahead) 1)

            -- where Q3 allows what it asks for, it wakes exactly if it waited
            waited_if : blocked w row.turn.0 row.asked ≡ false → did ≡ wakes_by up T s row
            waited_if e =
                (written.each j).waits
                ∙ ap (λ (b : Bool). b && (not (ltb (ahead rows row.turn.0) T) || ltb 0 row.asked)) (lt-ltb 0 row.turn.0 alive)
                ∙ or_comm (not (ltb (ahead rows row.turn.0) T)) (ltb 0 row.asked)
                ∙ ap (λ (b : Bool). ltb 0 row.asked || b) (tokenless token_now (written.moved j alive))
                ∙ ap (λ (n : ℕ). ltb 0 row.asked || (up && eqb (T - n) 1)) (sym stands.before)
                ∙ sym (and-true may)
                ∙ ap (λ (b : Bool). may && not b) (sym (stands.forbids row.asked ∙ e))

            -- and else it did not wait, and going on changes nothing
            goes : (b : Bool) → did ≡ b → goes_on row ≡ cond b (goes_on row) row
            goes true h = refl
            goes false h =
                let quiet = (waiting_reads T rows row alive).fails.0 (sym (written.each j).waits ∙ h) in
                still row quiet.1 ((written.each j).steady.rests alive quiet.0 quiet.1)

            go :
                (b : Bool) → blocked w row.turn.0 row.asked ≡ b →
                (row_of (settled T w) j ≡ cond (wakes_by up T s row) (goes_on row) row)
                × (woke T rows (settled T w) j ≡ wakes_by up T s row)
            go true e =
                let swept = swept_blocked T w row alive e in
                let stays = waits_on swept.0 swept.1 in
                let not-woken : wakes_by up T s row ≡ false =
                ap (λ (b : Bool). may && not b) (stands.forbids row.asked ∙ e) ∙ and-false may in
                (stays.0 ∙ sym (other (goes_on row) row (wakes_by up T s row) not-woken), stays.1 ∙ sym not-woken)
            go false e =
                let swept = swept_free T w row alive e token_now in
                let rests = (waiting_reads T w (goes_on row) alive).fails.1 (token_now, refl) in (
                  row_settled T w j ∙ swept ∙ goes (wakes_by up T s row) (waited_if e),
                  woke_row ∙ ap (λ (r : Row). did && not (waiting T w r)) swept ∙ ap (λ (b : Bool). did && not b) rests
                      ∙ and-true did
                      ∙ waited_if e,
                )

  -- ---- The line and the list

  -- whoever is live now has the turn that it had
  turns_kept : (j : ℕ) → (row_of w j).turn.0 ≡ cond (live_in w j) (row_of rows j).turn.0 0
  turns_kept j = go (live_in w j) refl
    where
      go : (b : Bool) → live_in w j ≡ b → (row_of w j).turn.0 ≡ cond b (row_of rows j).turn.0 0
      go true e = (written.each j).turn (ltb-true 0 (row_of w j).turn.0 e)
      go false e = le-zero (ltb-false 0 (row_of w j).turn.0 e)

  -- the line now is that of before without those who have gone
  pub line_now : line w ≡ keep (live_in w) (line rows)
  line_now = line_kept (live_in w) rows w turns_kept written.long

  -- who wakes, in order of turn, is found along the line before
  pub woken_line : woken T rows (settled T w) ≡ keep (woke T rows (settled T w)) (line rows)
  unfolding woken
  woken_line =
      ap (keep (woke T rows (settled T w)))
      (line_turns (settled T w) w (λ j. ap (λ (t : Turn). t.0) (turn_settled T w j)) (length_settled T w) ∙ line_now)
      ∙ keep_within (woke T rows (settled T w)) (live_in w) (λ j none. (after_idle j none).1) (line rows)
