-- A walk that keeps, in place, the rows that do not pass a test: what is kept stands before what is left to look at.
use Prim.Native.Nat.{ℕ, ◌+◌, ◌-◌, ◌≤◌, ◌<◌}
use mathlib.Core.Path.{◌≡◌, sym, ◌∙◌}
use mathlib.Core.Bool.{Bool, true, false}
use mathlib.Core.List.{List, ◌++◌, append_assoc}
use native.Mathlib.Omega.{arith}
use Rattle.model.specs.Tests.{without}
use Rattle.uds.specs.Table.{tab}
use Rattle.uds.proofs.Tab.{tab_cons, tab-same, tab_snoc}

module _ {B : Type 0} (p : B → Bool) (f : ℕ → B) (n : ℕ) where
  module _ (kept i : ℕ) (whole : List B) (inv : whole ≡ tab f 0 kept ++ without p (tab f i (n - i))) where
    module _ (h : i < n) where
      pub passed_over : p (f i) ≡ true → whole ≡ tab f 0 kept ++ without p (tab f (i + 1) (n - (i + 1)))
      passed_over e = inv ∙ rw (tab_cons f n i h, e)

      -- row i is copied to the place after those that are kept, which it has passed
      pub moved_up : (g : ℕ → B) → kept ≤ i → p (f i) ≡ false → g kept ≡ f i → ((j : ℕ) → (j ≡ kept → ⊥) → g j ≡ f j)
          → whole ≡ tab g 0 (kept + 1) ++ without p (tab g (i + 1) (n - (i + 1)))
      moved_up g l e here others =
          let before : tab f 0 kept ≡ tab g 0 kept = tab-same f g 0 kept (λ j a b. sym (others j (λ z. absurd (omega arith)))) in
          let later : tab f (i + 1) (n - (i + 1)) ≡ tab g (i + 1) (n - (i + 1)) = tab-same f g (i + 1) (n - (i + 1)) (λ j a b. sym (others j (λ z. absurd (omega arith)))) in
          inv ∙ rw (tab_cons f n i h, e, tab_snoc g kept, append_assoc, here, before, later)
