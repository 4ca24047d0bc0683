-- The subscription table as lent words, seen as the definition's list, and what each function leaves of it.
use Rattle.std.specs.Prelude.{Option as Maybe, Some, None}
use Rattle.std.specs.Prelude.{ℕ, ◌+◌, ◌*◌, ◌%◌, ◌^◌, ◌≤◌, ◌<◌, ◌≡◌, Bool, ◌&&◌, List, get_or, nat_eq, nat_le, nat_lt}
use Rattle.std.proofs.Math.Option.{Option, some, none}
use Rattle.model.specs.Tests.{pick, without}
use Rattle.model.specs.Numbers.{Moment, Span, max_periodic}
use Rattle.model.specs.State.{Subscription}
use Rattle.model.specs.Service2A.{is_subscription, register}
use Rattle.model.specs.Tick.{advanced}
use Rattle.uds.specs.Table.{tab}
use Rattle.uds.specs.Clock.{starts}
use Rattle.periodic.specs.declared.PeriodicEntry.{PeriodicEntry}

-- a word of entry i; 0 outside the words
abbrev pub cell_at : List ℕ → ℕ → ℕ → ℕ
cell_at w i field = get_or w (4 * i + field) 0

-- an identifier has 16 bits and a client 32, whatever the words hold; interval and moment are whole words
abbrev pub entry_at : List ℕ → ℕ → Subscription
entry_at w i = record { identifier = cell_at w i 0 % 2 ^ 16; client = cell_at w i 1 % 2 ^ 32; interval = cell_at w i 2; next = cell_at w i 3 }

-- the entries that stand: as many as the count says, also where that is more than there is room for
abbrev pub table_of : ℕ → List ℕ → List Subscription
table_of count w = tab (entry_at w) 0 count

-- an entry by value
abbrev pub entry_of : PeriodicEntry → Subscription
entry_of e = record { identifier = e.identifier; client = e.client; interval = e.interval.0; next = e.next.0 }

-- an entry is put in its place, and the others are as they were
pub record Puts (before : List ℕ) (i : ℕ) (e : Subscription) (after : List ℕ) : Type 0 where
  pub here : entry_at after i ≡ e
  pub others : (j : ℕ) → (j ≡ i → ⊥) → entry_at after j ≡ entry_at before j

-- the table that an answer leaves
abbrev pub left_by : Maybe ℕ → List ℕ → Option (List Subscription)
left_by (Some n) w = some (table_of n w)
left_by None w = none

-- registering is the definition's; a refusal leaves the words as they were, and so does a count that no table has
pub record Registers (before : List ℕ) (count x client : ℕ) (interval : Span) (t : Moment) (r : Maybe ℕ) (after : List ℕ) : Type 0 where
  pub table : count ≤ max_periodic → left_by r after ≡ register x client interval (starts t interval) (table_of count before)
  pub beyond : max_periodic < count → r ≡ None
  pub full : r ≡ None → after ≡ before
  pub room : (n : ℕ) → r ≡ Some n → n ≤ max_periodic

-- cancelling is the definition's, and leaves no more than stood; under a count that no table has every word stays
pub record Cancels (before : List ℕ) (count x client r : ℕ) (after : List ℕ) : Type 0 where
  pub table : count ≤ max_periodic → table_of r after ≡ without (is_subscription x client) (table_of count before)
  pub beyond : max_periodic < count → after ≡ before
  pub as_many : max_periodic < count → r ≡ count
  pub fewer : r ≤ count

-- entry i stands, and its moment has come
abbrev pub due_at : ℕ → List ℕ → ℕ → Moment → Bool
due_at count w i t = nat_lt i count && nat_le (entry_at w i).next t

-- the rows with row i advanced
abbrev pub advanced_at : ℕ → Moment → (ℕ → Subscription) → ℕ → Subscription
advanced_at i t f j = pick (nat_eq j i) (advanced (starts t (f j).interval) (f j)) (f j)

-- an entry that stands is advanced by its own interval, and the others are as they were; where it does not stand, or the count is no table's, every word is
pub record Advances (before : List ℕ) (count i : ℕ) (t : Moment) (after : List ℕ) : Type 0 where
  pub table : count ≤ max_periodic → table_of count after ≡ tab (advanced_at i t (entry_at before)) 0 count
  pub here : count ≤ max_periodic → i < count → entry_at after i ≡ advanced (starts t (entry_at before i).interval) (entry_at before i)
  pub others : (j : ℕ) → (j ≡ i → ⊥) → entry_at after j ≡ entry_at before j
  pub beyond : max_periodic < count → after ≡ before
  pub past : count ≤ i → after ≡ before
