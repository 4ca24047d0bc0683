-- What a list holds after one was entered in it, which the theorems on locks and on subscriptions share.
use Prim.Native.Nat.{ℕ}
use mathlib.Core.Path.{◌≡◌, refl, sym, ◌∙◌}
use mathlib.Core.Bool.{Bool, true, false, ◌||◌, false≢true}
use mathlib.Core.List.{List, [], ◌∷◌, ◌++◌}
use mathlib.Core.Option.{some, none}
use lib.ListN.{length}
use lib.Dec.{ltb}
use Rattle.model.specs.Tests.{pick, first, any, change_first, enter}

-- an entry that passes p, is the first to do so, and has a property
pub record Entry {A : Type 0} (p : A → Bool) (Q : A → Type 0) (l : List A) : Type 0 where
  pub entry : A
  pub first : first p l ≡ some entry
  pub has : Q entry

module _ {A : Type 0} (p : A → Bool) (Q : A → Type 0) where
  here : (a : A) (l : List A) → p a ≡ true → Q a → Entry p Q (a ∷ l)
  here a l e q = record { entry = a; first = rw e; has = q }

  there : (a : A) (l : List A) → p a ≡ false → Entry p Q l → Entry p Q (a ∷ l)
  there a l e f = record { entry = f.entry; first = rw e f.first; has = f.has }

  module _ (f : A → A) (pf : (a : A) → p a ≡ true → p (f a) ≡ true) (qf : (a : A) → p a ≡ true → Q (f a)) where
    changed : (l : List A) → any p l ≡ true → Entry p Q (change_first p f l)
    changed [] h = absurd (false≢true h)
    changed (a ∷ l) h = go (changed l) (p a) refl h
      where
        go : (any p l ≡ true → Entry p Q (change_first p f l)) → (t : Bool) → p a ≡ t → (t || any p l) ≡ true → Entry p Q (pick t (f a ∷ l) (a ∷ change_first p f l))
        go k true e h = here (f a) l (pf a e) (qf a e)
        go k false e h = there a (change_first p f l) e (k h)

    module _ (new : A) (pn : p new ≡ true) (qn : Q new) where
      added : (l : List A) → any p l ≡ false → Entry p Q (l ++ (new ∷ []))
      added [] h = here new [] pn qn
      added (a ∷ l) h = go (added l) (p a) refl h
        where
          go : (any p l ≡ false → Entry p Q (l ++ (new ∷ []))) → (t : Bool) → p a ≡ t → (t || any p l) ≡ false → Entry p Q (a ∷ (l ++ (new ∷ [])))
          go k true e h = absurd (false≢true (sym h))
          go k false e h = there a (l ++ (new ∷ [])) e (k h)

      -- where one was entered, the first that passes is there, with what the new one and a changed one have
      pub entered : (most : ℕ) (l u : List A) → enter most p f new l ≡ some u → Entry p Q u
      unfolding enter
      entered most l u e = go (any p l) refl (ltb (length l) most) e
        where
          go : (t : Bool) → any p l ≡ t → (w : Bool) → pick t (some (change_first p f l)) (pick w (some (l ++ (new ∷ []))) none) ≡ some u → Entry p Q u
          go true h w e = let g : change_first p f l ≡ u = cc in rw (← g) (changed l h)
          go false h true e = let g : l ++ (new ∷ []) ≡ u = cc in rw (← g) (added l h)
          go false h false e = let g : false ≡ true = cc in absurd (false≢true g)

-- what is found stays found, with its property, where another is entered
module _ {A : Type 0} (q : A → Bool) (Q : A → Type 0) where
  at : (a : A) (l : List A) → q a ≡ true → Entry q Q (a ∷ l) → Q a
  at a l e g = let h = rw e at g.first in let i : g.entry ≡ a = cc in rw i at g.has

  past : (a : A) (l : List A) → q a ≡ false → Entry q Q (a ∷ l) → Entry q Q l
  past a l e g = record { entry = g.entry; first = rw e at g.first; has = g.has }

  module _ (p : A → Bool) (f : A → A) (same : (a : A) → p a ≡ true → q (f a) ≡ q a) (qf : (a : A) → p a ≡ true → q a ≡ true → Q (f a)) where
    kept-changed : (l : List A) → Entry q Q l → Entry q Q (change_first p f l)
    kept-changed [] g = g
    kept-changed (a ∷ l) g = go (kept-changed l) (p a) refl (q a) refl
      where
        go : (Entry q Q l → Entry q Q (change_first p f l)) → (t : Bool) → p a ≡ t → (w : Bool) → q a ≡ w → Entry q Q (pick t (f a ∷ l) (a ∷ change_first p f l))
        go k true e true h = here q Q (f a) l (same a e ∙ h) (qf a e h)
        go k true e false h = there q Q (f a) l (same a e ∙ h) (past a l h g)
        go k false e true h = here q Q a (change_first p f l) h (at a l h g)
        go k false e false h = there q Q a (change_first p f l) h (k (past a l h g))

    kept-added : (l m : List A) → Entry q Q l → Entry q Q (l ++ m)
    kept-added [] m g = let z : false ≡ true = cc g.first in absurd (false≢true z)
    kept-added (a ∷ l) m g = go (kept-added l m) (q a) refl
      where
        go : (Entry q Q l → Entry q Q (l ++ m)) → (w : Bool) → q a ≡ w → Entry q Q (a ∷ (l ++ m))
        go k true h = here q Q a (l ++ m) h (at a l h g)
        go k false h = there q Q a (l ++ m) h (k (past a l h g))

    pub kept : (most : ℕ) (new : A) (l u : List A) → enter most p f new l ≡ some u → Entry q Q l → Entry q Q u
    unfolding enter
    kept most new l u e g = go (any p l) (ltb (length l) most) e
      where
        go : (t w : Bool) → pick t (some (change_first p f l)) (pick w (some (l ++ (new ∷ []))) none) ≡ some u → Entry q Q u
        go true w e = let i : change_first p f l ≡ u = cc in rw (← i) (kept-changed l g)
        go false true e = let i : l ++ (new ∷ []) ≡ u = cc in rw (← i) (kept-added l (new ∷ []) g)
        go false false e = let z : false ≡ true = cc in absurd (false≢true z)
