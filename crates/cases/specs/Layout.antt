-- Where a case's numbers stand in its bytes, counted in bits.
use Rattle.std.specs.Prelude.{ℕ, ◌+◌, ◌*◌, ◌≤◌, List, ◌≡◌}
use Rattle.arbiter.specs.declared.table.Table.{Table}
use Rattle.event.specs.Limits.{jobs}
use Rattle.fields.specs.Packing.{field_at}
use Rattle.laws.specs.ListLaws.{Filled}
use Rattle.rows.specs.Order.{idle}
use Rattle.rows.specs.declared.row.Row.{Row}
use Rattle.cases.specs.declared.layout.Case.{Case}

-- a field: the bit at which it begins, and how wide it is
pub record Field : Type 0 where
  pub at : ℕ
  pub width : ℕ

-- the bit after a field
abbrev pub end : Field → ℕ
end f = f.at + f.width

-- the field of that width after another
abbrev pub behind : Field → ℕ → Field
behind f width = record { at = end f; width = width }

-- ---- Before the rows

abbrev pub call_field : Field
call_field = record { at = 0; width = 8 }

abbrev pub job_field : Field
job_field = behind call_field 32

abbrev pub tick_field : Field
tick_field = behind job_field 32

abbrev pub set_field : Field
set_field = behind tick_field 64

abbrev pub length_field : Field
length_field = behind set_field 16

abbrev pub tokens_field : Field
tokens_field = behind length_field 8

abbrev pub resources_field : Field
resources_field = behind tokens_field 8

abbrev pub limit_field : Field
limit_field = behind resources_field 32

abbrev pub time_field : Field
time_field = behind limit_field 64

abbrev pub last_field : Field
last_field = behind time_field 64

-- ---- In a row

abbrev pub turn_field : Field
turn_field = record { at = 0; width = 64 }

abbrev pub declared_field : Field
declared_field = behind turn_field 64

abbrev pub held_field : Field
held_field = behind declared_field 64

abbrev pub asked_field : Field
asked_field = behind held_field 64

abbrev pub since_field : Field
since_field = behind asked_field 64

-- ---- What bytes hold

-- the w bits from bit k on lie in a case, and a word of 64 bits holds them
pub record InCase (k w : ℕ) : Type 0 where
  pub word : w ≤ 64
  pub room : k + w ≤ end last_field + jobs * end since_field

-- in a field
abbrev pub in_field : List ℕ → Field → ℕ
in_field bs f = field_at bs f.at f.width

-- in a field of a job's row; the rows stand after the last field before them, one after the other
abbrev pub in_row : List ℕ → ℕ → Field → ℕ
in_row bs job f = field_at bs (end last_field + job * end since_field + f.at) f.width

-- the row of a job
abbrev pub row_at : List ℕ → ℕ → Row
row_at bs job = record {
  turn = record { 0 = in_row bs job turn_field };
  declared = in_row bs job declared_field;
  held = in_row bs job held_field;
  asked = in_row bs job asked_field;
  since = in_row bs job since_field;
}

-- these are the rows of all jobs
abbrev pub RowsIn : List ℕ → List Row → Type 0
RowsIn bs rows = Filled (λ job r. r ≡ row_at bs job) idle rows jobs

-- this is the table
pub record TableIn (bs : List ℕ) (t : Table) : Type 0 where
  pub tokens : t.tokens ≡ in_field bs tokens_field
  pub resources : t.resources ≡ in_field bs resources_field
  pub limit : t.limit ≡ in_field bs limit_field
  pub time : t.time ≡ in_field bs time_field
  pub last : t.last.0 ≡ in_field bs last_field
  pub rows : RowsIn bs t.rows

-- this is the case
pub record CaseIn (bs : List ℕ) (c : Case) : Type 0 where
  pub call : c.call ≡ in_field bs call_field
  pub job : c.job ≡ in_field bs job_field
  pub tick : c.tick.0 ≡ in_field bs tick_field
  pub set : c.set ≡ in_field bs set_field
  pub long : c.length ≡ in_field bs length_field
