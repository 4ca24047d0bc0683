-- What a caller makes of the promises: a server's times are at most 2^48 and its intervals below 2^32, so that no sum passes the last moment.
use Prim.Native.Nat.{ℕ, zero, suc, ◌+◌, ◌≤◌, ◌<◌}
use mathlib.Core.Path.{◌≡◌}
use mathlib.Core.Bool.{Bool, true}
use mathlib.Core.List.{List}
use native.Mathlib.Omega.{arith}
use lib.Dec.{ltb}
use borrow.Author.Tests.{leb-true, ltb-true}
use Rattle.std.specs.Prelude.{Option as Maybe}
use Rattle.model.specs.Tests.{all}
use Rattle.model.specs.Numbers.{Moment, Span, max_periodic, max_time, max_span}
use Rattle.model.specs.Config.{table_within}
use Rattle.model.specs.State.{moment_valid, subscription_valid}
use Rattle.model.specs.Service2A.{register}
use Rattle.model.specs.Tick.{advanced}
use Rattle.model.proofs.Laws.{left, right, within-length, within_all}
use Rattle.uds.specs.Table.{tab}
use Rattle.uds.specs.Clock.{last_moment}
use Rattle.uds.proofs.Times.{on_the_clock}
use Rattle.uds.proofs.Tab.{tab-length}
use Rattle.periodic.specs.View.{entry_at, table_of, left_by, Registers, Advances}

-- registering and advancing are then the definition's, word for word
pub registers : {before after : List ℕ} {count x client : ℕ} {interval : Span} {t : Moment} {r : Maybe ℕ} → Registers before count x client interval t r after → count ≤ max_periodic → t + interval ≤ last_moment
    → left_by r after ≡ register x client interval t (table_of count before)
registers {interval = interval} {t = t} p h l = rw (on_the_clock t interval l) at (p.table h)

pub advances : {before after : List ℕ} {count i : ℕ} {t : Moment} → Advances before count i t after → count ≤ max_periodic → i < count → t + (entry_at before i).interval ≤ last_moment → entry_at after i ≡ advanced t (entry_at before i)
advances {before} {i = i} {t = t} p h k l = rw (on_the_clock t (entry_at before i).interval l) at (p.here h k)

-- what a valid table says of its count and of each entry that stands
all_at : {B : Type 0} (p : B → Bool) (f : ℕ → B) (k n i : ℕ) → all p (tab f k n) ≡ true → i < n → p (f (k + i)) ≡ true
all_at p f k zero i e h = absurd (omega arith)
all_at p f k (suc n) zero e h = let z : k + 0 ≡ k = omega arith in rw z (left (p (f k)) (all p (tab f (suc k) n)) e)
all_at p f k (suc n) (suc i) e h = let z : k + suc i ≡ suc k + i = omega arith in rw z (all_at p f (suc k) n i (right (p (f k)) (all p (tab f (suc k) n)) e) (omega arith))

module _ (count : ℕ) (w : List ℕ) (valid : table_within max_periodic subscription_valid (table_of count w) ≡ true) where
  pub valid-count : count ≤ max_periodic
  valid-count = omega (arith, within-length max_periodic subscription_valid (table_of count w) valid, tab-length (entry_at w) 0 count)

  module _ (i : ℕ) (h : i < count) where
    row-valid : subscription_valid (entry_at w i) ≡ true
    row-valid = let z : 0 + i ≡ i = omega arith in rw z at (all_at subscription_valid (entry_at w) 0 count i (within_all max_periodic subscription_valid (table_of count w) valid) h)

    pub valid-interval : (entry_at w i).interval < max_span
    valid-interval = ltb-true (entry_at w i).interval max_span (left (ltb (entry_at w i).interval max_span) (moment_valid (entry_at w i).next) row-valid)

    pub valid_moment : (entry_at w i).next ≤ max_time + max_span
    valid_moment = leb-true (entry_at w i).next (max_time + max_span) (right (ltb (entry_at w i).interval max_span) (moment_valid (entry_at w i).next) row-valid)
