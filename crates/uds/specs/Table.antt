-- Tables as lent words, and what a lookup answers.
use Rattle.std.specs.Prelude.{Option as Maybe, Some, None}
use Rattle.std.specs.Prelude.{ℕ, zero, suc, ◌+◌, ◌*◌, ◌≤◌, ◌<◌, min, ◌≡◌, Bool, List, [], ◌∷◌, get_or, nat_eq}
use Rattle.std.proofs.Math.Option.{Option, some, none}
use Rattle.model.specs.Tests.{place, first, examined}

-- f at n numbers from k on
abbrev pub tab : {B : Type 0} → (ℕ → B) → ℕ → ℕ → List B
tab f k zero = []
tab f k (suc n) = f k ∷ tab f (suc k) n

-- a word of row i, where that of the first row stands at `from` and rows are `step` words long; 0 outside the words
abbrev pub column : List ℕ → ℕ → ℕ → ℕ → ℕ
column w from step i = get_or w (from + i * step) 0

-- the test of a word
abbrev pub is_key : ℕ → ℕ → Bool
is_key x y = nat_eq y x

-- where the first of n rows stands whose word is the key
abbrev pub key_place : List ℕ → ℕ → ℕ → ℕ → ℕ → Option ℕ
key_place w from step n key = place (is_key key) (tab (column w from step) 0 n)

-- n rows end in `len` words, and the first begins there
pub record InWords (len from step n : ℕ) : Type 0 where
  pub begins : from < len
  pub ends : from + n * step ≤ len

-- what an answer says: the number of a row, or none
abbrev pub place_of : Maybe ℕ → Option ℕ
place_of (Some i) = some i
place_of None = none

-- the row itself
abbrev pub row_of : {B : Type 0} → (ℕ → B) → Maybe ℕ → Option B
row_of f (Some i) = some (f i)
row_of f None = none

-- how many of n rows were examined: a row number past them stands for them all
abbrev pub examined_of : Maybe ℕ → ℕ → ℕ
examined_of (Some i) n = min (i + 1) n
examined_of None n = n

-- an answer is right of a table of n rows: where the first row that passes the test stands, which row that is, and how many were examined
pub record Finds {B : Type 0} (p : B → Bool) (f : ℕ → B) (n : ℕ) (r : Maybe ℕ) : Type 0 where
  pub where_it_stands : place_of r ≡ place p (tab f 0 n)
  pub row : row_of f r ≡ first p (tab f 0 n)
  pub rows : examined_of r n ≡ examined p (tab f 0 n)
