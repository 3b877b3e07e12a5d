-- What reading or loading a file says about what is shown of it.
use Rattle.std.specs.Prelude.{◌≡◌, ◌≤◌}
use Rattle.desk.specs.Prelude.{Err, First, List, Loaded, Next, Ok, PutPage, Refusal, Result, Said, Table, Wrote, ◌∙◌, acceptance_tells, ap, fine, keep_unless, laid_front, le-ltb, leaves_is, length, load_answer, load_table, no_table, none, not, number_of, outcome_is, outcome_of, over, page, page_answer, page_room, past, read_cases, read_sound, refusal_tells, refused, room_with_page, said_of, says_done, sym, table_in, table_read, unless, zero-add, ℕ}
use Rattle.desk.specs.Desk.{reading, room_after, show_answer, show_cases, shown}
use Rattle.desk.specs.Promises.{Shows}

module _ (bs : List ℕ) (r : Next) (loaded : Loaded bs r) where
  -- a refused load is a file that is not read
  pub refused_reads : (n : Refusal) → r.answer ≡ Err n → table_read bs ≡ refused (number_of n)
  unfolding table_read load_answer
  refused_reads n told =
      (refusal_tells (read_cases bs) says_done (number_of n) (sym loaded.says ∙ ap said_of told)).1 (table_in bs)

  -- any other load hands back the table that is read
  pub accepted_reads : (x : Said) → said_of r.answer ≡ fine x → table_read bs ≡ fine r.table
  unfolding table_read load_answer load_table
  accepted_reads x done =
      let told = acceptance_tells (read_cases bs) says_done x (sym loaded.says ∙ done) in
      told.2 (table_in bs) ∙ ap fine (sym (loaded.hands ∙ told.3 no_table (table_in bs)))

module _ (bs before : List ℕ) where
  -- by the first case that applies, or by none
  pub shows_is :
      {n : ℕ} {r : Result ℕ Refusal} {after : List ℕ} → First (show_cases (length before)) n →
      outcome_of r ≡ unless n (length (shown bs)) → after ≡ keep_unless n before (over (shown bs) before) →
      Shows bs before r after
  unfolding show_answer room_after
  shows_is f a l =
      record { answers = a ∙ outcome_is (length (shown bs)) f; leaves = l ∙ leaves_is before (over (shown bs) before) f }

  module _ (fits : page_room ≤ length before) where
    -- with room, what was put at the front is what is shown
    shows_text :
        (s : List ℕ) {r : Result ℕ Refusal} {after : List ℕ} → shown bs ≡ s → outcome_of r ≡ fine (length s) → after ≡ over s before →
        Shows bs before r after
    shows_text s same a l =
        shows_is (past (le-ltb (length before) page_room fits) none) (a ∙ ap (λ (t : List ℕ). fine (length t)) (sym same))
        (l ∙ ap (λ (t : List ℕ). over t before) (sym same))

    -- the refusal
    pub shows_no :
        (k : ℕ) {end : ℕ} {after : List ℕ} → table_read bs ≡ refused k → Wrote before 0 (reading (refused k)) end after →
        Shows bs before (Ok end) after
    unfolding shown
    shows_no k read w =
        shows_text (reading (refused k)) (ap reading read) (ap fine (w.ends ∙ zero-add (length (reading (refused k)))))
        (w.left ∙ laid_front before (reading (refused k)))

    -- the page
    pub shows_page :
        (t : Table) {r : Result ℕ Refusal} {after : List ℕ} → table_read bs ≡ fine t → PutPage t before r after → Shows bs before r after
    unfolding shown page_answer room_with_page
    shows_page t read put =
        let clear = past (ap not (read_sound bs t read)) (past (le-ltb (length before) page_room fits) none) in
        shows_text (page t) (ap reading read) (put.answers ∙ sym (outcome_is (length (page t)) clear))
        (put.leaves ∙ sym (leaves_is before (over (page t) before) clear))
