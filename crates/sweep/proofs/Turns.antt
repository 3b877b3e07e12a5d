-- What the loop over lent rows keeps, and what one turn of it makes of that.
use Rattle.std.specs.Prelude.{◌+◌, ◌<◌, ◌≡◌, ◌≤◌, ◌⊎◌}
use Rattle.sweep.specs.Prelude.{Bounds, Line, Lines, List, Row, Standing, arith, bit, front, get_or, jobs, length, length_lined_le, line, live, not, row_of, set, sound_by, true, ℕ}
use Rattle.sweep.specs.Passing.{noted, passed_by}
use Rattle.sweep.specs.SteadyLaws.{sound_steady, sound_tokens}
use Rattle.sweep.specs.Sweeping.{Acts, Onward, Settles}
use Rattle.sweep.specs.Written.{Written}
use Rattle.sweep.specs.WrittenLaws.{written}
use Rattle.sweep.specs.declared.settling.Passed.{Passed}
use Rattle.sweep.proofs.Midway.{Sweeps, sweeps_end, sweeps_passed, sweeps_start}

-- what is asked of whoever settles rows that are lent
pub record Asked (rows : List Row) (l : Line) (b : Bounds) (k : ℕ) (row : Row) (out : List ℕ) : Type 0 where
  pub lines : Lines rows l
  pub sound : sound_by b rows ≡ true
  pub acts : Acts b.tokens rows k
  pub onward : Onward (row_of rows k) row
  pub room : jobs ≤ length out

-- where the loop stands: the rows and the list so far, what stands before the next job, how many are listed, and how many jobs
-- are passed
pub record At (rows₀ : List Row) (b : Bounds) (k : ℕ) (row : Row) (out₀ : List ℕ) (rows : List Row) (out : List ℕ) (s : Standing) (n p : ℕ) : Type 0 where
  pub sweeps : Sweeps b.tokens rows₀ (set rows₀ k row) out₀ out rows s n p
  pub within : p ≤ length (line rows₀)

module _ {rows₀ : List Row} {l : Line} {b : Bounds} {k : ℕ} {row : Row} {out₀ : List ℕ} (asked : Asked rows₀ l b k row out₀) where
  -- what the sweep needs to know of the rows that came in and those that it begins with
  beginning : Written (not (live row)) b.tokens rows₀ (set rows₀ k row)
  beginning = written (sound_steady b rows₀ asked.sound) asked.acts asked.onward

  pub few_tokens : b.tokens ≤ jobs
  few_tokens = sound_tokens b rows₀ asked.sound

  -- before the first turn
  pub begins : At rows₀ b k row out₀ (set rows₀ k row) out₀ front 0 0
  begins = record { sweeps = sweeps_start beginning out₀; within = omega arith }

  module _ {rows : List Row} {out : List ℕ} {s : Standing} {n p : ℕ} (t : At rows₀ b k row out₀ rows out s n p) where
    -- the list is as long as it was, and fewer are listed than jobs are passed
    pub as_long : length out ≡ length out₀
    as_long = t.sweeps.writing.long

    pub listed : length rows₀ ≡ jobs → n ≤ jobs
    listed long = omega (arith, t.sweeps.writing.fewer, t.within, length_lined_le rows₀ (length rows₀))

    -- at the next job there is room for one more
    pub has_room : length rows₀ ≡ jobs → p < length (line rows₀) → n < length out
    has_room long left =
        omega (arith, t.sweeps.writing.fewer, left, length_lined_le rows₀ (length rows₀), as_long, asked.room)

    -- after the turn
    pub goes_on :
        length rows₀ ≡ jobs → p < length (line rows₀) → (job : ℕ) → get_or (line rows₀) p 0 ≡ job → s.ahead < b.tokens →
        (q : Passed) → q ≡ passed_by (not (live row)) b.tokens s (row_of rows job) → (m : ℕ) (zs : List ℕ) →
        (m ≡ n + bit q.woke) × (zs ≡ noted out n job q.woke) → At rows₀ b k row out₀ (set rows job q.row) zs q.s m (p + 1)
    goes_on long left job here token q found m zs e =
        record {
          sweeps =
              rw (e.0, e.1, found)
              (sweeps_passed beginning t.sweeps job left here token (has_room long left));
          within = omega (arith, left);
        }

    -- after the last turn
    pub ends :
        length rows₀ ≡ jobs → (length (line rows₀) ≤ p) ⊎ (b.tokens ≤ s.ahead) →
        Settles b.tokens rows₀ k row out₀ (record { rows = rows; count = n }) out
    ends long over =
        let end = sweeps_end beginning t.sweeps over (omega (arith, listed long, as_long, asked.room)) in
        record { leaves = end.0; lists = end.1 }
