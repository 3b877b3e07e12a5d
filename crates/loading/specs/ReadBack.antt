-- What a load hands back is the table that the bytes are read as, so that what holds of files holds of loads; and what was
-- saved loads back.
use Rattle.std.specs.Prelude.{◌++◌, ◌≡◌}
use Rattle.loading.specs.Prelude.{List, Table, UnsoundTable, acceptance_tells, case, clear, drop, fine, jobs, length, no_table, not-false, number_of, over, refl, refusal_tells, refused, says_done, sound, take, take_at, true, ℕ}
use Rattle.service.specs.File.{file, read_cases, table_in, table_read, write_cases}
use Rattle.service.proofs.RoundTrip.{file_reads}
use Rattle.saving.specs.Meaning.{room_after, save_answer}
use Rattle.loading.specs.Meaning.{load_answer, load_table}

-- bytes that are read as a table are loaded as that table
pub load_reads : (bs : List ℕ) (t : Table) → table_read bs ≡ fine t → (load_answer bs ≡ fine says_done) × (load_table bs ≡ t)
unfolding table_read load_answer load_table
load_reads bs t read =
    let said = acceptance_tells (read_cases bs) (table_in bs) t read in
    let left = acceptance_tells (read_cases bs) (table_in bs) t read in
    (said.2 says_done, rw (left.3 no_table (table_in bs)) left.1)

-- bytes that are refused are refused by a load too, which hands back the all-zero table
pub load_refuses : (bs : List ℕ) (k : ℕ) → table_read bs ≡ refused k → (load_answer bs ≡ refused k) × (load_table bs ≡ no_table)
unfolding table_read load_answer load_table
load_refuses bs k read =
    let said = refusal_tells (read_cases bs) (table_in bs) k read in
    let left = refusal_tells (read_cases bs) (table_in bs) k read in
    (said.1 says_done, left.2 no_table (table_in bs))

-- and what was loaded is what they are read as
pub load_tells : (bs : List ℕ) → load_answer bs ≡ fine says_done → table_read bs ≡ fine (load_table bs)
unfolding table_read load_answer load_table
load_tells bs done =
    let told = acceptance_tells (read_cases bs) says_done says_done done in
    rw (told.3 no_table (table_in bs)) (told.2 (table_in bs))

-- a table that was saved into a room is loaded from the bytes that the answer counts there
pub saved_loads :
    (t : Table) (room : List ℕ) (n : ℕ) → length t.rows ≡ jobs → save_answer t room ≡ fine n →
    load_table (take n (room_after t room)) ≡ t
unfolding save_answer room_after over case
saved_loads t room n long done =
    let told = acceptance_tells {B = List ℕ} (write_cases (length room) t) (length (file t)) n done in
    let is-sound : sound t ≡ true = not-false (sound t) (clear (number_of UnsoundTable) (write_cases (length room) t) refl told.0) in
    rw (told.3 room (file t ++ drop (length (file t)) room), take_at (file t) (drop (length (file t)) room) n told.1)
    (load_reads (file t) t (file_reads t long is-sound)).1
