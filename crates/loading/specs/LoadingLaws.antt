-- The rows of a file taken one by one, and what the tests of loading come to.
use Rattle.std.specs.Prelude.{◌&&◌, ◌*◌, ◌+◌, ◌<◌, ◌||◌, ◌∷◌, ◌≡◌, ◌≤◌, Err, Ok, Result}
use Rattle.loading.specs.Prelude.{BitSet, Bool, FileHead, FileRow, First, List, Next, Refusal, Row, Table, UnsoundTable, [], ◌∙◌, and_assoc, and-true, any, ap, arith, drop, eq-eqb, eqb, false, fine, first, idle, jobs, keep_unless, le-ltb, leaves, leaves_is, length, length-replicate, length-set, live, lt-ltb, ltb, ne_eqb, no_table, none, not, number_of, outcome, outcome_is, outcome_of, past, refl, refused, refusing, replicate, row_of, said_of, says_done, set, sound, subst, sym, this, true, unless, ℕ}
use Rattle.service.specs.File.{ascend, bit_set, file_rows, good, head_in, head_size, known, once, placed, read_cases, row_said, row_size, rows_in, table_in, table_of, table_read, version, wrong_size}
use Rattle.service.specs.Placing.{JobsBelow, fits, free}
use Rattle.service.specs.PlacingLaws.{fits_all}
use Rattle.loading.specs.Meaning.{load_answer, load_table}
use Rattle.loading.specs.Promises.{Loaded}
use Rattle.loading.specs.Taking.{Judges, Takes, Taking, judge_cases, rows_taken, stray}

-- ---- Row by row

pub taking_start : (fs : List FileRow) → Taking fs fs (replicate jobs idle) true 0
taking_start fs = record { long = length-replicate jobs idle; places = refl; fit = refl; strays = refl }

-- one more, with no bit set that must be 0: e and l are what code tested, x is the row that it says
pub taking_next :
    {fs left : List FileRow} {rows : List Row} {ok e l : Bool} {n : ℕ} (f : FileRow) (x : Row) → Taking fs (f ∷ left) rows ok n →
    ltb 0 f.zero ≡ false → x ≡ row_said f → e ≡ ltb n x.turn.0 → l ≡ live (row_of rows f.job) →
    Taking fs left (set rows f.job x) (ok && (e && not l)) x.turn.0
unfolding fits placed any
taking_next {fs} {left} {rows} {ok} {e} {l} {n} f x now clear is is-above is_live =
    subst (λ (r : Row). Taking fs left (set rows f.job r) (ok && (e && not l)) r.turn.0) (sym is)
    (record {
      long = length-set rows f.job (row_said f) ∙ now.long;
      places = now.places;
      fit =
          rw (is-above, is, is_live)
          (rw (and_assoc ok (ltb n f.turn && free rows f) (fits f.turn (set rows f.job (row_said f)) left)) now.fit);
      strays = rw clear at now.strays;
    })

-- a bit of the next is set that must be 0
pub taking_stray :
    {fs left : List FileRow} {rows : List Row} {ok : Bool} {n : ℕ} (f : FileRow) → Taking fs (f ∷ left) rows ok n →
    ltb 0 f.zero ≡ true → refused (number_of BitSet) ≡ rows_taken fs
unfolding any rows_taken
taking_stray {fs} f now set =
    let some : stray fs ≡ true = rw set at (sym now.strays) in
    outcome_is (placed (replicate jobs idle) fs) (this some)

-- all were taken
module _ {fs : List FileRow} {rows : List Row} {ok : Bool} {n : ℕ} (below : JobsBelow fs) (now : Taking fs [] rows ok n) where
  none_stray : stray fs ≡ false
  unfolding any
  none_stray = sym now.strays

  fit_tested : ok ≡ (ascend 0 fs && once fs)
  unfolding fits
  fit_tested = sym (and-true ok) ∙ now.fit ∙ fits_all fs below

  -- none of them with a bit set
  pub taking_end : Takes fs rows ok false
  unfolding placed
  taking_end = record { places = now.places; fit = fit_tested; strays = sym none_stray }

  pub taking_fit : ok ≡ true → fine rows ≡ rows_taken fs
  unfolding placed rows_taken
  taking_fit fit = ap fine now.places ∙ outcome_is (placed (replicate jobs idle) fs) (past none_stray (past (ap not (sym fit_tested ∙ fit)) none))

  pub taking_unfit : ok ≡ false → refused (number_of UnsoundTable) ≡ rows_taken fs
  unfolding rows_taken
  taking_unfit unfit = outcome_is (placed (replicate jobs idle) fs) (past none_stray (this (ap not (sym fit_tested ∙ unfit))))

-- ---- Refused by the rows, or by the table after them

refused_on :
    {A B : Type 0} (set fit ok : Bool) (a : A) (b : B) (k : ℕ) →
    refused k ≡ outcome (refusing BitSet set ∷ refusing UnsoundTable (not fit) ∷ []) a →
    refused k ≡ outcome (refusing BitSet set ∷ refusing UnsoundTable (not (fit && ok)) ∷ []) b
unfolding outcome first
refused_on true fit ok a b k e = ap refused (let n : k ≡ number_of BitSet = cc in n)
refused_on false false ok a b k e = ap refused (let n : k ≡ number_of UnsoundTable = cc in n)
refused_on false true ok a b k e = let z : ◌≡◌ {A = ℕ} 0 1 = cc in absurd (omega arith)

taken_on :
    {A : Type 0} (set fit : Bool) (a x : A) → fine x ≡ outcome (refusing BitSet set ∷ refusing UnsoundTable (not fit) ∷ []) a →
    (set ≡ false) × (fit ≡ true) × (x ≡ a)
unfolding outcome first
taken_on true fit a x e = let z : ◌≡◌ {A = ℕ} 0 1 = cc in absurd (omega arith)
taken_on false false a x e = let z : ◌≡◌ {A = ℕ} 0 1 = cc in absurd (omega arith)
taken_on false true a x e = (refl, refl, cc)

-- ---- What the first case that applies says of a load

pub loaded_is :
    (bs : List ℕ) {n : ℕ} {r : Next} → First (read_cases bs) n → said_of r.answer ≡ unless n says_done →
    r.table ≡ keep_unless n no_table (table_in bs) → Loaded bs r
unfolding load_answer load_table
loaded_is bs f a h = record { says = a ∙ outcome_is says_done f; hands = h ∙ leaves_is no_table (table_in bs) f }

pub judged_is :
    (t : Table) (ok : Bool) {n : ℕ} {r : Next} → First (judge_cases t ok) n → said_of r.answer ≡ unless n says_done →
    r.table ≡ keep_unless n no_table t → Judges t ok r
judged_is t ok f a h = record { says = a ∙ outcome_is says_done f; hands = h ∙ leaves_is no_table t f }

-- ---- What the head and the rows that were read say of the file

module _ (bs : List ℕ) (h : FileHead) (is : h ≡ head_in bs) where
  -- too short for a head
  pub too_short : length bs < head_size → wrong_size bs ≡ true
  too_short short = rw (lt-ltb (length bs) head_size short)

  module _ (long : head_size ≤ length bs) where
    -- of another version, and so not of the wrong size
    pub unknown : ¬ (h.version ≡ version) → (known bs ≡ false) × (wrong_size bs ≡ false)
    unknown other =
        let new : known bs ≡ false = ap (λ (x : FileHead). eqb x.version version) (sym is) ∙ ne_eqb h.version version other in
        (new, rw (le-ltb (length bs) head_size long, new))

    module _ (one : h.version ≡ version) where
      pub is_known : known bs ≡ true
      is_known = ap (λ (x : FileHead). eqb x.version version) (sym is) ∙ eq-eqb h.version version one

      -- of this version, its size is that of the rows it counts or not
      size_tested : wrong_size bs ≡ not (eqb (length bs) (head_size + row_size * h.count))
      size_tested =
          rw (le-ltb (length bs) head_size long, is_known)
          (ap (λ (x : FileHead). not (eqb (length bs) (head_size + row_size * x.count))) (sym is))

      pub wrong_size_lem : ¬ (length bs ≡ head_size + row_size * h.count) → wrong_size bs ≡ true
      wrong_size_lem other = size_tested ∙ ap not (ne_eqb (length bs) (head_size + row_size * h.count) other)

      pub right_size : length bs ≡ head_size + row_size * h.count → wrong_size bs ≡ false
      right_size same = size_tested ∙ ap not (eq-eqb (length bs) (head_size + row_size * h.count) same)

  -- what is known of rows that were taken is known of the file
  module _ (rows : List Row) (ok bit : Bool) (takes : Takes (rows_in h.count (drop head_size bs)) rows ok bit) where
    taken : Takes (file_rows bs) rows ok bit
    taken = subst (λ (x : FileHead). Takes (rows_in x.count (drop head_size bs)) rows ok bit) is takes

    pub zeros_tested : (ltb 0 h.zero || bit) ≡ bit_set bs
    unfolding any
    zeros_tested = λ i. ltb 0 (is i).zero || taken.strays i

    pub table_read_lem : table_of h rows ≡ table_in bs
    unfolding table_in
    table_read_lem = λ i. table_of (is i) (taken.places i)

    good_tested : (ok && sound (table_in bs)) ≡ good bs
    good_tested = ap (λ (b : Bool). b && sound (table_in bs)) taken.fit

    -- what is left to judge
    pub judged_loads :
        {r : Next} → wrong_size bs ≡ false → known bs ≡ true → bit_set bs ≡ false → (t : Table) → t ≡ table_in bs → Judges t ok r →
        Loaded bs r
    unfolding outcome leaves first load_answer load_table
    judged_loads {r} size one clear t is-table j =
        let same : first (judge_cases t ok) ≡ first (read_cases bs) =
        rw (size, one, clear)
        (ap (λ (u : Table). first (judge_cases u ok)) is-table
        ∙ ap (λ (b : Bool). first (refusing UnsoundTable (not b) ∷ [])) good_tested) in
        record {
          says = j.says ∙ ap (λ (n : ℕ). unless n says_done) same;
          hands =
              j.hands ∙ ap (λ (n : ℕ). keep_unless n no_table t) same
              ∙ ap (keep_unless (first (read_cases bs)) no_table) is-table;
        }

  module _ (size : wrong_size bs ≡ false) (one : known bs ≡ true) where
    bits : (b : Bool) → ltb 0 h.zero ≡ b → bit_set bs ≡ (b || stray (file_rows bs))
    unfolding any
    bits b e = ap (λ (x : FileHead). ltb 0 x.zero || stray (file_rows bs)) (sym is) ∙ ap (λ (a : Bool). a || stray (file_rows bs)) e

    -- a bit of the head is set that must be 0
    pub stray_head : ltb 0 h.zero ≡ true → refused (number_of BitSet) ≡ table_read bs
    unfolding table_read
    stray_head e = outcome_is (table_in bs) (past size (past (ap not one) (this (bits true e))))

    table_same : (rows : List Row) → rows ≡ placed (replicate jobs idle) (file_rows bs) → table_of h rows ≡ table_in bs
    unfolding table_in
    table_same rows e = λ i. table_of (is i) (e i)

    module _ (clear : ltb 0 h.zero ≡ false) (r : Result (List Row) Refusal) (taken : outcome_of r ≡ rows_taken (rows_in h.count (drop head_size bs))) where
      of_file : outcome_of r ≡ rows_taken (file_rows bs)
      of_file = taken ∙ ap (λ (x : FileHead). rows_taken (rows_in x.count (drop head_size bs))) is

      -- rows that are refused
      pub rows_refused : (e : Refusal) → r ≡ Err e → refused (number_of e) ≡ table_read bs
      unfolding table_read rows_taken outcome first
      rows_refused e told =
          rw (size, one, bits false clear)
          (refused_on (stray (file_rows bs)) (ascend 0 (file_rows bs) && once (file_rows bs)) (sound (table_in bs)) _ (table_in bs) (number_of e)
          (sym (ap outcome_of told) ∙ of_file))

      -- rows that are taken, and then the table
      module _ (rows : List Row) (told : r ≡ Ok rows) (t : Table) (is-table : t ≡ table_of h rows) where
        all : (stray (file_rows bs) ≡ false) × ((ascend 0 (file_rows bs) && once (file_rows bs)) ≡ true) × (rows ≡ placed (replicate jobs idle) (file_rows bs))
        unfolding rows_taken
        all = taken_on (stray (file_rows bs)) (ascend 0 (file_rows bs) && once (file_rows bs)) _ rows (sym (ap outcome_of told) ∙ of_file)

        same : t ≡ table_in bs
        same = is-table ∙ table_same rows all.2

        judged : good bs ≡ sound t
        judged = ap (λ (b : Bool). b && sound (table_in bs)) all.1 ∙ ap sound (sym same)

        pub table_refused : sound t ≡ false → refused (number_of UnsoundTable) ≡ table_read bs
        unfolding table_read
        table_refused e = outcome_is (table_in bs) (past size (past (ap not one) (past (bits false clear ∙ all.0) (this (ap not (judged ∙ e))))))

        pub table_loaded : sound t ≡ true → fine t ≡ table_read bs
        unfolding table_read
        table_loaded e = ap fine same ∙ outcome_is (table_in bs) (past size (past (ap not one) (past (bits false clear ∙ all.0) (past (ap not (judged ∙ e)) none))))
