-- Handed-in outcomes: what the value table says of an identifier, and what an act gave.
use Rattle.std.specs.Prelude.{ℕ, ◌+◌, Bool, ◌&&◌, List, [], length, take, drop, nat_eq, nat_le}
use Rattle.std.proofs.Math.Option.{Option, some, none}
use Rattle.model.specs.Tests.{pick, first}

-- bytes, or an error byte
pub data Outcome : Type 0 where
  bytes : List ℕ → Outcome
  error : ℕ → Outcome

-- a row of the value table: an identifier, its error byte (0 for none), and where its bytes lie in the pool
pub record ValueRow : Type 0 where
  pub identifier : ℕ
  pub err : ℕ
  pub start : ℕ
  pub len : ℕ

-- the table: rows over a byte pool
pub record Table : Type 0 where
  pub rows : List ValueRow
  pub pool : List ℕ

abbrev pub empty_table : Table
empty_table = record { rows = []; pool = [] }

abbrev pub is_value : ℕ → ValueRow → Bool
is_value x r = nat_eq r.identifier x

-- a row lies in the pool and is no longer than the limit
abbrev pub lies : ℕ → List ℕ → ValueRow → Bool
lies limit pool r = nat_le (r.start + r.len) (length pool) && nat_le r.len limit

-- a missing row, or one outside the pool or above the limit, reads as 0x22, whatever its error byte
unfoldable pub row_value : ℕ → List ℕ → Option ValueRow → Outcome
row_value limit pool none = error 0x22
row_value limit pool (some r) =
    pick (lies limit pool r) (pick (nat_eq r.err 0) (bytes (take r.len (drop r.start pool))) (error r.err)) (error 0x22)

-- the first row for an identifier counts
abbrev pub value : ℕ → Table → ℕ → Outcome
value limit t x = row_value limit t.pool (first (is_value x) t.rows)

-- what is handed in for an act: an error byte (0 means done) and bytes
pub record Given : Type 0 where
  pub err : ℕ
  pub bytes : List ℕ

-- done, with no bytes
abbrev pub given0 : Given
given0 = record { err = 0; bytes = [] }

-- an error byte is that error, however many bytes come with it; bytes above the room count as error 0x22
unfoldable pub outcome : ℕ → Given → Outcome
outcome room g = pick (nat_eq g.err 0) (pick (nat_le (length g.bytes) room) (bytes g.bytes) (error 0x22)) (error g.err)
