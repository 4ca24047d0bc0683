-- A walk over the row numbers of a table answers what the definition says of its rows.
use Prim.Native.Nat.{ℕ, zero, suc, ◌+◌, ◌<◌}
use mathlib.Core.Path.{◌≡◌, refl, ap, sym, ◌∙◌}
use mathlib.Core.Bool.{Bool, true, false, cond}
use mathlib.Core.Option.{some}
use native.Mathlib.Omega.{arith}
use native.Mathlib.Numerals.{add-one}
use Rattle.std.specs.Prelude.{Option as Maybe, Some}
use Rattle.std.specs.List.{find, list_all, range_with_len}
use Rattle.std.specs.Option.{option_map}
use Rattle.std.proofs.lemmas.Iterator.Adapters.{option_map_id}
use Rattle.model.specs.Tests.{pick, place, all}
use Rattle.uds.specs.Table.{tab, place_of}
use Rattle.uds.proofs.Tab.{place_from, counted}

module _ {B : Type 0} (p : B → Bool) (f : ℕ → B) (test : ℕ → Bool) where
  found_from : (k n : ℕ) → ((i : ℕ) → i < k + n → p (f i) ≡ test i) → place_of (find test (range_with_len k n)) ≡ place_from p (tab f k n) k
  found_from k zero h = refl
  found_from k (suc n) h = rw (h k (omega arith), add-one) (go (test k) (found_from (suc k) n (λ i q. h i (omega arith))))
    where
      go : (b : Bool) → place_of (find test (range_with_len (suc k) n)) ≡ place_from p (tab f (suc k) n) (suc k)
          → place_of (cond b (Some k) (find test (range_with_len (suc k) n))) ≡ pick b (some k) (place_from p (tab f (suc k) n) (suc k))
      go true e = refl
      go false e = e

  pub found : (n : ℕ) → ((i : ℕ) → i < n → p (f i) ≡ test i) → (r : Maybe ℕ) → option_map (λ x. x) r ≡ find test (range_with_len 0 n) → place_of r ≡ place p (tab f 0 n)
  found n h r e = ap place_of (sym (option_map_id r) ∙ e) ∙ found_from 0 n (λ i q. h i (omega arith)) ∙ sym (counted p (tab f 0 n))

  pub all_passed : (k n : ℕ) → ((i : ℕ) → i < k + n → p (f i) ≡ test i) → list_all test (range_with_len k n) ≡ all p (tab f k n)
  all_passed k zero h = refl
  all_passed k (suc n) h = rw (h k (omega arith), add-one, all_passed (suc k) n (λ i q. h i (omega arith)))
