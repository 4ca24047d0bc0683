-- Laws of a tabulated table that is changed in one place or grows by one, stated once over the row type, the rows and the test.
use Prim.Native.Nat.{ℕ, zero, suc, ◌+◌, ◌≤◌, ◌<◌}
use mathlib.Core.Path.{◌≡◌, refl, ap, ap₂, ◌∙◌, sym}
use mathlib.Core.Bool.{Bool, true, false, ◌||◌}
use mathlib.Core.List.{List, [], ◌∷◌, ◌++◌}
use mathlib.Core.Option.{Option, some, none, map, none-ne-some, some-ne-none}
use native.Mathlib.Omega.{arith}
use lib.ListN.{length}
use borrow.Author.Tests.{lt-ltb, le-ltb}
use Rattle.model.specs.Tests.{pick, any, place, change_first, enter}
use Rattle.uds.specs.Table.{tab}
use Rattle.uds.proofs.Tab.{tab-same, tab_snoc, tab-length}

module _ {B : Type 0} (p : B → Bool) where
  -- a place says that some row passes, and none that no row does
  pub any_some : (l : List B) (i : ℕ) → place p l ≡ some i → any p l ≡ true
  any_some [] i e = absurd (none-ne-some i e)
  any_some (a ∷ l) i e = go (p a) (place p l) e (any_some l)
    where
      go : (b : Bool) (o : Option ℕ) → pick b (some 0) (map suc o) ≡ some i → ((j : ℕ) → o ≡ some j → any p l ≡ true) → (b || any p l) ≡ true
      go true o z ih = refl
      go false (some j) z ih = ih j refl
      go false none z ih = absurd (none-ne-some i z)

  pub any_none : (l : List B) → place p l ≡ none → any p l ≡ false
  any_none [] e = refl
  any_none (a ∷ l) e = go (p a) (place p l) e (any_none l)
    where
      go : (b : Bool) (o : Option ℕ) → pick b (some 0) (map suc o) ≡ none → (o ≡ none → any p l ≡ false) → (b || any p l) ≡ false
      go true o z ih = absurd (some-ne-none 0 z)
      go false (some j) z ih = absurd (some-ne-none (suc j) z)
      go false none z ih = ih refl

  -- a row that is not there is not changed
  pub change_none : (change : B → B) (l : List B) → place p l ≡ none → change_first p change l ≡ l
  change_none change [] e = refl
  change_none change (a ∷ l) e = go (p a) (place p l) e (change_none change l)
    where
      go : (b : Bool) (o : Option ℕ) → pick b (some 0) (map suc o) ≡ none → (o ≡ none → change_first p change l ≡ l) → pick b (change a ∷ l) (a ∷ change_first p change l) ≡ a ∷ l
      go true o z ih = absurd (some-ne-none 0 z)
      go false none z ih = ap (a ∷◌) (ih refl)
      go false (some j) z ih = absurd (some-ne-none (suc j) z)

  -- the row at the place changed, and the others as they were
  pub change_at : (change : B → B) (f g : ℕ → B) (k n i : ℕ) → place p (tab f k n) ≡ some i → g (k + i) ≡ change (f (k + i))
      → ((j : ℕ) → k ≤ j → j < k + n → (j ≡ k + i → ⊥) → g j ≡ f j) → change_first p change (tab f k n) ≡ tab g k n
  change_at change f g k zero i e same other = absurd (none-ne-some i e)
  change_at change f g k (suc n) i e same other = go (p (f k)) (place p (tab f (suc k) n)) e (change_at change f g (suc k) n)
    where
      tail : i ≡ 0 → tab f (suc k) n ≡ tab g (suc k) n
      tail z = tab-same f g (suc k) n (λ j a b. sym (other j (omega arith) (omega arith) (λ q. absurd (omega arith))))

      head : i ≡ 0 → g k ≡ change (f k)
      head z = let q : k + i ≡ k = omega arith in rw q at same

      go : (b : Bool) (o : Option ℕ) → pick b (some 0) (map suc o) ≡ some i
          → ((j : ℕ) → o ≡ some j → g (suc k + j) ≡ change (f (suc k + j)) → ((m : ℕ) → suc k ≤ m → m < suc k + n → (m ≡ suc k + j → ⊥) → g m ≡ f m) → change_first p change (tab f (suc k) n) ≡ tab g (suc k) n)
          → pick b (change (f k) ∷ tab f (suc k) n) (f k ∷ change_first p change (tab f (suc k) n)) ≡ g k ∷ tab g (suc k) n
      go true o z ih = let q : i ≡ 0 = cc in ap₂ ◌∷◌ (sym (head q)) (tail q)
      go false none z ih = absurd (none-ne-some i z)
      go false (some j) z ih =
          let q : i ≡ suc j = cc in
          let r : k + i ≡ suc k + j = omega arith in
          ap₂ ◌∷◌ (sym (other k (omega arith) (omega arith) (λ w. absurd (omega arith)))) (ih j refl (rw r at same) (λ m a b w. other m (omega arith) (omega arith) (λ v. w (v ∙ r))))

  -- a row that is known is changed where it stands
  pub enter_known : (most : ℕ) (change : B → B) (new : B) (f g : ℕ → B) (n i : ℕ) → place p (tab f 0 n) ≡ some i → g i ≡ change (f i)
      → ((j : ℕ) → j < n → (j ≡ i → ⊥) → g j ≡ f j) → enter most p change new (tab f 0 n) ≡ some (tab g 0 n)
  unfolding enter
  enter_known most change new f g n i e same other =
      let z : 0 + i ≡ i = omega arith in
      rw (any_some (tab f 0 n) i e) (ap some (change_at change f g 0 n i e (rw z same) (λ j a b w. other j (omega arith) (λ v. w (v ∙ sym z)))))

  -- another is added at the end
  pub enter-new : (most : ℕ) (change : B → B) (new : B) (f g : ℕ → B) (n : ℕ) → place p (tab f 0 n) ≡ none → n < most → g n ≡ new → ((j : ℕ) → j < n → g j ≡ f j)
      → enter most p change new (tab f 0 n) ≡ some (tab g 0 (n + 1))
  unfolding enter
  enter-new most change new f g n e h last other =
      let l : length (tab f 0 n) < most = omega (arith, tab-length f 0 n) in
      rw (any_none (tab f 0 n) e, lt-ltb (length (tab f 0 n)) most l)
      (ap some (ap₂ (λ (xs : List B) (x : B). xs ++ (x ∷ [])) (tab-same f g 0 n (λ j a b. sym (other j (omega arith)))) (sym last) ∙ sym (tab_snoc g n)))

  -- or nothing, where the table is full
  pub enter-full : (most : ℕ) (change : B → B) (new : B) (f : ℕ → B) (n : ℕ) → place p (tab f 0 n) ≡ none → most ≤ n → enter most p change new (tab f 0 n) ≡ none
  unfolding enter
  enter-full most change new f n e h =
      let l : most ≤ length (tab f 0 n) = omega (arith, tab-length f 0 n) in
      rw (any_none (tab f 0 n) e, le-ltb (length (tab f 0 n)) most l)

-- the row at a place passes the test, and stands in the table
pub record Passes {B : Type 0} (p : B → Bool) (f : ℕ → B) (k n i : ℕ) : Type 0 where
  pub below : i < n
  pub passes : p (f (k + i)) ≡ true

pub passing : {B : Type 0} (p : B → Bool) (f : ℕ → B) (k n i : ℕ) → place p (tab f k n) ≡ some i → Passes p f k n i
passing p f k zero i e = absurd (none-ne-some i e)
passing p f k (suc n) i e = go (p (f k)) refl (place p (tab f (suc k) n)) e (passing p f (suc k) n)
  where
    go : (b : Bool) → p (f k) ≡ b → (o : Option ℕ) → pick b (some 0) (map suc o) ≡ some i → ((j : ℕ) → o ≡ some j → Passes p f (suc k) n j) → Passes p f k (suc n) i
    go true q o z ih =
        let a : i ≡ 0 = cc in
        let b : k + i ≡ k = omega arith in
        record { below = omega arith; passes = rw b q }
    go false q none z ih = absurd (none-ne-some i z)
    go false q (some j) z ih =
        let a : i ≡ suc j = cc in
        let b : k + i ≡ suc k + j = omega arith in
        record { below = omega (arith, (ih j refl).below); passes = rw b (ih j refl).passes }
