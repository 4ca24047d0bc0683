-- The first row wins: the row that a lookup finds stands at its place, no row before it passes, and so many rows were looked at.
use Prim.Native.Nat.{ℕ, zero, suc, ◌<◌}
use mathlib.Core.Path.{◌≡◌, refl, ap, sym}
use mathlib.Core.Bool.{Bool, true, false}
use mathlib.Core.List.{List, [], ◌∷◌, Memᴰ}
use mathlib.Core.Option.{Option, some, none, map, none-ne-some, some-ne-none}
use native.Mathlib.Omega.{arith}
use lib.ListN.{length, get_or}
use Rattle.model.specs.Tests.{pick, all, first, place, examined}
use Rattle.model.proofs.Laws.{left, right, either}

-- what a place says of a list
pub record Found {A : Type 0} (p : A → Bool) (l : List A) (d : A) (n : ℕ) : Type 0 where
  pub inside : n < length l
  pub row : first p l ≡ some (get_or l n d)
  pub passes : p (get_or l n d) ≡ true
  pub before : (i : ℕ) → i < n → p (get_or l i d) ≡ false
  pub looked : examined p l ≡ suc n

module _ {A : Type 0} (p : A → Bool) (d : A) where
  -- the first row of all
  at_once : (a : A) (l : List A) → p a ≡ true → Found p (a ∷ l) d 0
  at_once a l f = record { inside = omega arith; row = rw f; passes = f; before = λ i h. absurd (omega arith); looked = rw f }

  -- a row further on
  later : (a : A) (l : List A) (m : ℕ) → p a ≡ false → Found p l d m → Found p (a ∷ l) d (suc m)
  later a l m f k = record { inside = omega (arith, k.inside); row = rw f k.row; passes = k.passes; before = go; looked = rw f (ap suc k.looked) }
    where
      go : (i : ℕ) → i < suc m → p (get_or (a ∷ l) i d) ≡ false
      go zero h = f
      go (suc i) h = k.before i (omega arith)

  pub found : (l : List A) (n : ℕ) → place p l ≡ some n → Found p l d n
  found [] n e = absurd (none-ne-some n e)
  found (a ∷ l) n e = go (p a) refl (place p l) e (found l)
    where
      go : (b : Bool) → p a ≡ b → (o : Option ℕ) → pick b (some 0) (map suc o) ≡ some n → ((m : ℕ) → o ≡ some m → Found p l d m) → Found p (a ∷ l) d n
      go true f o z ih = let q : 0 ≡ n = cc in rw (← q) (at_once a l f)
      go false f none z ih = absurd (none-ne-some n z)
      go false f (some m) z ih = let q : suc m ≡ n = cc in rw (← q) (later a l m f (ih m refl))

  -- without a place there is no row, and all were looked at
  pub missing : (l : List A) → place p l ≡ none → (first p l ≡ none) × (examined p l ≡ length l)
  missing [] e = (refl, refl)
  missing (a ∷ l) e = go (p a) refl (place p l) e (missing l)
    where
      go : (b : Bool) → p a ≡ b → (o : Option ℕ) → pick b (some 0) (map suc o) ≡ none → (o ≡ none → (first p l ≡ none) × (examined p l ≡ length l))
          → (first p (a ∷ l) ≡ none) × (examined p (a ∷ l) ≡ length (a ∷ l))
      go true f o z ih = absurd (some-ne-none 0 z)
      go false f none z ih = (rw f (ih refl).0, rw f (ap suc (ih refl).1))
      go false f (some m) z ih = absurd (some-ne-none (suc m) z)

-- the first that passes stands in the list, and passes
pub first_in : {A : Type 0} (p : A → Bool) (l : List A) (a : A) → first p l ≡ some a → Memᴰ a l × (p a ≡ true)
first_in p [] a e = absurd (none-ne-some a e)
first_in p (b ∷ l) a e = go (first_in p l a) (p b) refl e
  where
    go : (first p l ≡ some a → Memᴰ a l × (p a ≡ true)) → (t : Bool) → p b ≡ t → pick t (some b) (first p l) ≡ some a → Memᴰ a (b ∷ l) × (p a ≡ true)
    go k true h f = let g : b ≡ a = cc in (Memᴰ.head (sym g), rw (← g) h)
    go k false h f = (Memᴰ.tail (k f).0, (k f).1)

-- a lookup gives nothing, or an element that passes the test that all pass: what holds of both holds of what it gives
pub first_or : {A : Type 0} (P : Option A → Type 0) (p q : A → Bool) (l : List A) → all q l ≡ true → P none → ((a : A) → q a ≡ true → P (some a)) → P (first p l)
first_or P p q [] h n f = n
first_or P p q (a ∷ l) h n f = either P (p a) (f a (left (q a) (all q l) h)) (first_or P p q l (right (q a) (all q l) h) n f)
