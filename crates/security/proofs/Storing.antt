-- A seed put into the words: its bytes, then its length and its level.
use Prim.Native.Nat.{ℕ, ◌+◌, ◌≤◌, ◌<◌}
use mathlib.Core.Path.{◌≡◌, refl, sym, ◌∙◌}
use mathlib.Core.List.{List, []}
use native.Mathlib.Omega.{arith}
use native.Mathlib.Decide.{dec_le}
use lib.ListN.{length, get_or, set, length-set, get_or-eq_default}
use lib.Seq.{get_or-set_same, get_or-set_other}
use borrow.Author.Tests.{le-leb}
use Rattle.model.specs.Numbers.{max_seed}
use Rattle.model.specs.Service27.{seeded}
use Rattle.uds.specs.Table.{tab}
use Rattle.uds.proofs.Tab.{tab_list}
use Rattle.security.specs.View.{seed_at, failed_at, lock_at, security_of, Fills, Clears, Seeds}
use Rattle.security.proofs.Words.{word-here, word-past, failed_pair, lock_pair, list_same}

-- a seed's bytes put, those after them overwritten, then length and level
module _ (b a d bytes : List ℕ) (level : ℕ) (f : Fills b bytes 0 (length bytes) a) (g : Fills a [] (length bytes) max_seed d) (fits : length bytes ≤ 32) (l : length d ≡ 68) where
  abbrev left : List ℕ
  left = set (set d 0 (length bytes)) 1 level

  same : (j : ℕ) → 2 ≤ j → get_or left j 0 ≡ get_or d j 0
  same j p = get_or-set_other (set d 0 (length bytes)) 1 j level 0 (λ z. omega arith) ∙ get_or-set_other d 0 j (length bytes) 0 (λ z. omega arith)

  its-length : get_or left 0 0 ≡ length bytes
  its-length = get_or-set_other (set d 0 (length bytes)) 1 0 level 0 (λ z. omega arith) ∙ get_or-set_same d 0 (length bytes) 0 (omega arith)

  its-level : get_or left 1 0 ≡ level
  its-level = get_or-set_same (set d 0 (length bytes)) 1 level 0 (simp length-set (omega arith))

  counter : (j : ℕ) → 2 ≤ j → j < 4 → get_or left j 0 ≡ get_or b j 0
  counter j p q = same j p ∙ g.below j (omega arith) ∙ f.below j (omega arith)

  list : (j : ℕ) → 36 ≤ j → get_or left j 0 ≡ get_or b j 0
  list j p = same j (omega arith) ∙ g.above j (omega arith) ∙ f.above j (omega arith)

  byte : (i : ℕ) → i < 32 → seed_at left i ≡ get_or d (4 + i) 0
  byte i p = word-here left max_seed i (4 + i) p ∙ same (4 + i) (omega arith)

  -- a byte of the seed; one after it, where an older seed may have stood; and none past the 32nd
  pub stored_bytes : (i : ℕ) → seed_at left i ≡ get_or bytes i 0
  stored_bytes i = elim (dec_le (length bytes) i) [
    | yes p ↦ after p ∙ sym (get_or-eq_default bytes 0 {n = i} p)
    | no p ↦ byte i (omega arith) ∙ g.below (4 + i) (omega arith) ∙ f.put i (omega arith) (omega arith)
  ]
    where
      after : length bytes ≤ i → seed_at left i ≡ 0
      after p = elim (dec_le 32 i) [ yes q ↦ word-past left max_seed i (4 + i) q | no q ↦ byte i (omega arith) ∙ g.put i p (omega arith) ]

  the_seed : tab (seed_at left) 0 (get_or left 0 0) ≡ bytes
  the_seed = rw its-length (tab_list (seed_at left) bytes (length bytes) refl (λ i p. stored_bytes i))

  the_failed : tab (failed_at left) 0 (get_or left 2 0) ≡ tab (failed_at b) 0 (get_or b 2 0)
  the_failed = list_same b left failed_pair 2 36 (counter 2 (omega arith) (omega arith)) (λ j p q. list j p)

  the_locks : tab (lock_at left) 0 (get_or left 3 0) ≡ tab (lock_at b) 0 (get_or b 3 0)
  the_locks = list_same b left lock_pair 3 52 (counter 3 (omega arith) (omega arith)) (λ j p q. list j (omega arith))

  stored : security_of left ≡ seeded (security_of b) level bytes
  stored = λ i. record { seed = the_seed i; seed_level = its-level i; failed = the_failed i; locks = the_locks i }

  pub seed-held : Seeds b level bytes left
  seed-held = record { state = rw (le-leb (length bytes) 32 fits) stored; overwritten = λ i. rw (le-leb (length bytes) 32 fits) (stored_bytes i) }

-- a seed that is cleared is one of no bytes
pub cleared-all : (b d : List ℕ) → Fills b [] 0 max_seed d → length d ≡ 68 → Clears b (set (set d 0 0) 1 0)
cleared-all b d g l = record { state = stored b b d [] 0 none g (omega arith) l; overwritten = stored_bytes b b d [] 0 none g (omega arith) l }
  where
    none : Fills b [] 0 0 b
    none = record { put = λ j p q. absurd (omega arith); below = λ j p. refl; above = λ j p. refl }
