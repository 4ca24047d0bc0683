-- A table of n rows, looked at by the numbers below n: whether all pass.
use Prim.Native.Nat.{ℕ, zero, suc}
use mathlib.Core.Path.{◌≡◌, refl}
use mathlib.Core.Bool.{Bool}
use native.Mathlib.Numerals.{add-one}
use Rattle.std.specs.List.{list_all, range_with_len}
use Rattle.model.specs.Tests.{all}
use Rattle.uds.specs.Table.{tab}

module _ {B : Type 0} (p : B → Bool) (f : ℕ → B) where
  pub all_rows : (k n : ℕ) → list_all (λ (i : ℕ). p (f i)) (range_with_len k n) ≡ all p (tab f k n)
  all_rows k zero = refl
  all_rows k (suc n) = rw (add-one, all_rows (suc k) n)
