-- Laws of the lent words: a table is seen as before where its own words are.
use Prim.Native.Nat.{ℕ, ◌+◌, ◌*◌, ◌≤◌, ◌<◌}
use mathlib.Core.Path.{◌≡◌, ap, ap₂, sym, ◌∙◌}
use mathlib.Core.List.{List}
use native.Mathlib.Omega.{arith}
use native.Mathlib.Decide.{dec_le}
use lib.ListN.{get_or}
use borrow.Author.Tests.{lt-ltb, le-ltb}
use Rattle.model.specs.Numbers.{max_levels, max_seed}
use Rattle.model.specs.State.{Failed, Lock, with_failed, with_locks}
use Rattle.uds.specs.Table.{tab}
use Rattle.uds.proofs.Tab.{tab-same}
use Rattle.security.specs.View.{word_at, seed_at, row_at, failed_at, lock_at, security_of}

-- a word of a row that the table has, and of one past it
pub word-here : (w : List ℕ) (most i at : ℕ) → i < most → word_at w most i at ≡ get_or w at 0
word-here w most i at p = rw (lt-ltb i most p)

pub word-past : (w : List ℕ) (most i at : ℕ) → most ≤ i → word_at w most i at ≡ 0
word-past w most i at p = rw (le-ltb i most p)

pub word_same : (b a : List ℕ) (most i at : ℕ) → (i < most → get_or a at 0 ≡ get_or b at 0) → word_at a most i at ≡ word_at b most i at
word_same b a most i at h = elim (dec_le most i) [ yes p ↦ rw (le-ltb i most p) | no p ↦ (let q : i < most = omega arith in rw (lt-ltb i most q) (h q)) ]

pub row_here : (w : List ℕ) (from i at : ℕ) → i < 8 → at ≡ from + 2 * i → row_at w from i ≡ get_or w at 0
row_here w from i at p e = word-here w max_levels i (from + 2 * i) p ∙ ap (λ (j : ℕ). get_or w j 0) (sym e)

-- rows of two words, whatever a row is
abbrev pub rows : {B : Type 0} → (ℕ → ℕ → B) → List ℕ → ℕ → ℕ → B
rows pair w from i = pair (row_at w from i) (row_at w (from + 1) i)

abbrev pub failed_pair : ℕ → ℕ → Failed
failed_pair level count = record { level = level; count = count }

abbrev pub lock_pair : ℕ → ℕ → Lock
lock_pair level until = record { level = level; until = until }

module _ (b a : List ℕ) where
  pub seed-same : ((j : ℕ) → 4 ≤ j → j < 36 → get_or a j 0 ≡ get_or b j 0) → (i : ℕ) → seed_at a i ≡ seed_at b i
  seed-same h i = word_same b a max_seed i (4 + i) (λ p. h (4 + i) (omega arith) (omega arith))

  pub row_same : (from : ℕ) → ((j : ℕ) → from ≤ j → j < from + 15 → get_or a j 0 ≡ get_or b j 0) → (i : ℕ) → row_at a from i ≡ row_at b from i
  row_same from h i = word_same b a max_levels i (from + 2 * i) (λ p. h (from + 2 * i) (omega arith) (omega arith))

  -- a list whose count and whose words are as they were
  pub list_same : {B : Type 0} (pair : ℕ → ℕ → B) (counter from : ℕ) → get_or a counter 0 ≡ get_or b counter 0 → ((j : ℕ) → from ≤ j → j < from + 16 → get_or a j 0 ≡ get_or b j 0)
      → tab (rows pair a from) 0 (get_or a counter 0) ≡ tab (rows pair b from) 0 (get_or b counter 0)
  list_same pair counter from e h =
      rw e
      (tab-same (rows pair a from) (rows pair b from) 0 (get_or b counter 0)
      (λ i p q. ap₂ pair (row_same from (λ j s t. h j s (omega arith)) i) (row_same (from + 1) (λ j s t. h j (omega arith) (omega arith)) i)))

  bytes_same : ((j : ℕ) → (j ≡ 2 → ⊥) → (j ≡ 3 → ⊥) → j < 36 → get_or a j 0 ≡ get_or b j 0) → tab (seed_at a) 0 (get_or a 0 0) ≡ tab (seed_at b) 0 (get_or b 0 0)
  bytes_same h = rw (h 0 (λ z. omega arith) (λ z. omega arith) (omega arith)) (tab-same (seed_at a) (seed_at b) 0 (get_or b 0 0) (λ i p q. seed-same (λ j s t. h j (λ z. omega arith) (λ z. omega arith) t) i))

  -- all is seen as before but the one list or the other
  pub only_failed : ((j : ℕ) → (j ≡ 2 → ⊥) → j < 36 → get_or a j 0 ≡ get_or b j 0) → ((j : ℕ) → 52 ≤ j → get_or a j 0 ≡ get_or b j 0) → security_of a ≡ with_failed (security_of b) (security_of a).failed
  only_failed h g = λ i. record { seed = bytes_same (λ j x y p. h j x p) i; seed_level = h 1 (λ z. omega arith) (omega arith) i; failed = tab (failed_at a) 0 (get_or a 2 0); locks = the_locks i }
    where
      the_locks : tab (lock_at a) 0 (get_or a 3 0) ≡ tab (lock_at b) 0 (get_or b 3 0)
      the_locks = list_same lock_pair 3 52 (h 3 (λ z. omega arith) (omega arith)) (λ j p q. g j p)

  pub only_locks : ((j : ℕ) → (j ≡ 3 → ⊥) → j < 52 → get_or a j 0 ≡ get_or b j 0) → security_of a ≡ with_locks (security_of b) (security_of a).locks
  only_locks h = λ i. record { seed = bytes_same (λ j x y p. h j y (omega arith)) i; seed_level = h 1 (λ z. omega arith) (omega arith) i; failed = the_failed i; locks = tab (lock_at a) 0 (get_or a 3 0) }
    where
      the_failed : tab (failed_at a) 0 (get_or a 2 0) ≡ tab (failed_at b) 0 (get_or b 2 0)
      the_failed = list_same failed_pair 2 36 (h 2 (λ z. omega arith) (omega arith)) (λ j p q. h j (λ z. omega arith) (omega arith))
