-- What a caller makes of the promises: where the record keeps its numbers both lists are lists, and the promises are the definition's, word for word.
use Prim.Native.Nat.{ℕ}
use mathlib.Core.Path.{◌≡◌}
use mathlib.Core.Bool.{Bool, true, ◌&&◌}
use mathlib.Core.List.{List}
use mathlib.Core.Option.{some, map}
use lib.ListN.{length}
use lib.Dec.{leb}
use borrow.Author.Tests.{le-leb}
use Rattle.model.specs.Tests.{change_first, enter}
use Rattle.model.specs.Numbers.{Moment, max_levels, max_seed}
use Rattle.model.specs.Config.{table_within}
use Rattle.model.specs.State.{Security, with_failed, with_locks, lock_valid, security_valid}
use Rattle.model.specs.Service27.{is_failed, forget, increment_failed, set_lockout}
use Rattle.model.proofs.Laws.{left, right, within-length, enter-length}
use Rattle.security.specs.View.{listed, counted, locked_until, forgotten}

module _ (k : Security) (valid : security_valid k ≡ true) where
  failed-short : leb (length k.failed) max_levels ≡ true
  unfolding security_valid
  failed-short =
      let a = leb (length k.seed) max_seed in
      let b = leb (length k.failed) max_levels in
      right a b (left (a && b) (table_within max_levels lock_valid k.locks) valid)

  locks-short : leb (length k.locks) max_levels ≡ true
  unfolding security_valid
  locks-short =
      let a = leb (length k.seed) max_seed in
      let b = leb (length k.failed) max_levels in
      le-leb (length k.locks) max_levels (within-length max_levels lock_valid k.locks (right (a && b) (table_within max_levels lock_valid k.locks) valid))

  -- is_locked, failed_count
  pub failed-listed : {B : Type 0} (x y : B) → listed k.failed x y ≡ x
  failed-listed x y = rw failed-short

  pub locks-listed : {B : Type 0} (x y : B) → listed k.locks x y ≡ x
  locks-listed x y = rw locks-short

  -- increment, lock, reset
  pub counts : (level : ℕ) → counted k level ≡ map (with_failed k) (increment_failed level k.failed)
  counts level = rw failed-short

  pub locks : (level : ℕ) (until : Moment) → locked_until k level until ≡ map (with_locks k) (set_lockout level until k.locks)
  locks level until = rw locks-short

  pub forgets : (level : ℕ) → forgotten k level ≡ with_failed k (change_first (is_failed level) forget k.failed)
  forgets level = rw failed-short

-- a list that was entered into is a list still, so that a count can be read after it went up
pub still_listed : {A B : Type 0} (p : A → Bool) (change : A → A) (new : A) (l m : List A) → enter max_levels p change new l ≡ some m → leb (length l) max_levels ≡ true → (x y : B) → listed m x y ≡ x
still_listed {A} p change new l m e h x y = let z : leb (length m) max_levels ≡ true = rw e at (enter-length max_levels p change new l h) in rw z
