-- The value table's words and the pool, as the definition's table, and what a reading of it answers.
use Rattle.std.specs.Prelude.{Result, Ok, Err}
use Rattle.std.specs.Prelude.{ℕ, ◌+◌, ◌/◌, ◌%◌, ◌≤◌, ◌≡◌, List, length, take, drop}
use Rattle.std.proofs.Math.Option.{Option, some, none}
use Rattle.model.specs.Values.{ValueRow, Table}
use Rattle.model.specs.Values as Model
use Rattle.model.specs.Tests.{first}
use Rattle.uds.specs.Table.{tab, column}
use Rattle.uds.specs.declared.values.Place.{Place}

-- a row of four words; its error byte is the low byte of its word
abbrev pub value_at : List ℕ → ℕ → ValueRow
value_at w i = record { identifier = column w 0 4 i; err = column w 1 4 i % 256; start = column w 2 4 i; len = column w 3 4 i }

-- as many rows as there are words for; a rest of fewer than four words is none
abbrev pub table_of : List ℕ → List ℕ → Table
table_of w pool = record { rows = tab (value_at w) 0 (length w / 4); pool = pool }

-- the first row for an identifier
abbrev pub row_for : Table → ℕ → Option ValueRow
row_for t x = first (Model.is_value x) t.rows

-- an answer: where bytes stand, or an error byte
abbrev pub Reading : Type 0
Reading = Result Place ℕ

-- what it means: the bytes of the pool that it points at, or the error byte
abbrev pub outcome_of : List ℕ → Reading → Model.Outcome
outcome_of pool (Ok p) = Model.bytes (take p.len (drop p.start pool))
outcome_of pool (Err code) = Model.error code

-- where the bytes end, and how many they are
abbrev pub end_of : Reading → ℕ
end_of (Ok p) = p.start + p.len
end_of (Err code) = 0

abbrev pub length_of : Reading → ℕ
length_of (Ok p) = p.len
length_of (Err code) = 0

-- an answer whose bytes stand where the row says
abbrev pub placed : Option ValueRow → Reading → Reading
placed (some r) (Ok p) = Ok (record { start = r.start; len = r.len })
placed (some r) (Err code) = Err code
placed none o = o

-- an answer says what the row reads as, its bytes stand where the row says, lie in the pool and are no more than the limit
pub record Says (pool : List ℕ) (limit : ℕ) (row : Option ValueRow) (r : Reading) : Type 0 where
  pub says : outcome_of pool r ≡ Model.row_value limit pool row
  pub stands : r ≡ placed row r
  pub inside : end_of r ≤ length pool
  pub short : length_of r ≤ limit
