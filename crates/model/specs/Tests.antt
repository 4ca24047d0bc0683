-- The few words that the definition is written in: one of two by a test, and a test carried over a list.
use Rattle.std.specs.Prelude.{ℕ, suc, Bool, true, false, ◌&&◌, ◌||◌, List, [], ◌∷◌, ◌++◌, length, nat_eq, nat_lt}
use Rattle.std.proofs.Math.Option.{Option, some, none, map}

-- one of two, by a test
abbrev pub pick : {A : Type 0} → Bool → A → A → A
pick true a b = a
pick false a b = b

-- x stands in the list
abbrev pub memb : ℕ → List ℕ → Bool
memb x [] = false
memb x (y ∷ ys) = pick (nat_eq y x) true (memb x ys)

-- every element passes the test
abbrev pub all : {A : Type 0} → (A → Bool) → List A → Bool
all p [] = true
all p (a ∷ l) = p a && all p l

-- some element passes it
abbrev pub any : {A : Type 0} → (A → Bool) → List A → Bool
any p [] = false
any p (a ∷ l) = p a || any p l

-- the first element that passes it
abbrev pub first : {A : Type 0} → (A → Bool) → List A → Option A
first p [] = none
first p (a ∷ l) = pick (p a) (some a) (first p l)

-- where that one stands, counted from 0
abbrev pub place : {A : Type 0} → (A → Bool) → List A → Option ℕ
place p [] = none
place p (a ∷ l) = pick (p a) (some 0) (map suc (place p l))

-- how many elements are looked at to find it: itself included, or all where there is none
abbrev pub examined : {A : Type 0} → (A → Bool) → List A → ℕ
examined p [] = 0
examined p (a ∷ l) = pick (p a) 1 (suc (examined p l))

-- the list with that one changed
abbrev pub change_first : {A : Type 0} → (A → Bool) → (A → A) → List A → List A
change_first p f [] = []
change_first p f (a ∷ l) = pick (p a) (f a ∷ l) (a ∷ change_first p f l)

-- the list without those that pass
abbrev pub without : {A : Type 0} → (A → Bool) → List A → List A
without p [] = []
without p (a ∷ l) = pick (p a) (without p l) (a ∷ without p l)

-- one more at the end, and nothing where `most` are held
abbrev pub added : {A : Type 0} → ℕ → A → List A → Option (List A)
added most new l = pick (nat_lt (length l) most) (some (l ++ (new ∷ []))) none

-- the first that passes changed; where none does, a new one at the end
unfoldable pub enter : {A : Type 0} → ℕ → (A → Bool) → (A → A) → A → List A → Option (List A)
enter most p f new l = pick (any p l) (some (change_first p f l)) (added most new l)
