-- Facts about the words of the definition, which the theorems share.
use Prim.Native.Nat.{ℕ, suc, ◌≤◌, ◌<◌}
use mathlib.Core.Path.{◌≡◌, refl, ap}
use mathlib.Core.Bool.{Bool, true, false, ◌&&◌, false≢true}
use mathlib.Core.List.{List, [], ◌∷◌, ◌++◌}
use mathlib.Core.Option.{Option, some, none}
use native.Mathlib.Omega.{arith}
use lib.ListN.{length, length-append}
use lib.Dec.{leb, ltb, eqb}
use borrow.Author.Tests.{ltb-true, leb-true, le-leb, eqb-true}
use Rattle.model.specs.Tests.{pick, memb, all, any, change_first, without, enter}
use Rattle.model.specs.Config.{table_within}

-- both tests pass
pub both : {a b : Bool} → a ≡ true → b ≡ true → (a && b) ≡ true
both p q = rw (p, q)

-- of a conjunction that holds, each part does
pub left : (a b : Bool) → (a && b) ≡ true → a ≡ true
left true b e = refl
left false b e = e

pub right : (a b : Bool) → (a && b) ≡ true → b ≡ true
right true b e = e
right false b e = absurd (false≢true e)

-- one of two, where both have a property
pub either : {A : Type 0} (P : A → Type 0) (b : Bool) {x y : A} → P x → P y → P (pick b x y)
either P true p q = p
either P false p q = q

-- so too where each has it if the test picks it
pub either_by : {A : Type 0} (P : A → Type 0) (b : Bool) {x y : A} → (b ≡ true → P x) → (b ≡ false → P y) → P (pick b x y)
either_by P true p q = p refl
either_by P false p q = q refl

-- a test over a list that grows by one, that has one changed, or that loses some
pub all_snoc : {A : Type 0} (q : A → Bool) (l : List A) (a : A) → all q l ≡ true → q a ≡ true → all q (l ++ (a ∷ [])) ≡ true
all_snoc q [] a h e = both e refl
all_snoc q (b ∷ l) a h e = both (left (q b) (all q l) h) (all_snoc q l a (right (q b) (all q l) h) e)

pub all_change : {A : Type 0} (p q : A → Bool) (f : A → A) (l : List A) → ((a : A) → q a ≡ true → q (f a) ≡ true) → all q l ≡ true → all q (change_first p f l) ≡ true
all_change p q f [] k h = refl
all_change p q f (b ∷ l) k h =
    either (λ m. all q m ≡ true) (p b) (both (k b (left (q b) (all q l) h)) (right (q b) (all q l) h)) (both (left (q b) (all q l) h) (all_change p q f l k (right (q b) (all q l) h)))

pub all_without : {A : Type 0} (p q : A → Bool) (l : List A) → all q l ≡ true → all q (without p l) ≡ true
all_without p q [] h = refl
all_without p q (b ∷ l) h =
    let r : all q (without p l) ≡ true = all_without p q l (right (q b) (all q l) h) in
    either (λ m. all q m ≡ true) (p b) r (both (left (q b) (all q l) h) r)

-- one of two by the same test on both sides, where the two pairs are related
pub alike : {A B : Type 0} (R : A → B → Type 0) (b : Bool) {x y : A} {z w : B} → R x z → R y w → R (pick b x y) (pick b z w)
alike R true p q = p
alike R false p q = q

-- a table that keeps the numbers has at most so many rows
pub within-length : {A : Type 0} (most : ℕ) (q : A → Bool) (l : List A) → table_within most q l ≡ true → length l ≤ most
within-length most q l h = leb-true (length l) most (left (leb (length l) most) (all q l) h)

-- and every row passes
pub within_all : {A : Type 0} (most : ℕ) (q : A → Bool) (l : List A) → table_within most q l ≡ true → all q l ≡ true
within_all most q l h = right (leb (length l) most) (all q l) h

-- and one with at most so many rows, of which every one passes, keeps them
pub table-within : {A : Type 0} (most : ℕ) (q : A → Bool) (l : List A) → length l ≤ most → all q l ≡ true → table_within most q l ≡ true
table-within most q l n h = both (le-leb (length l) most n) h

-- a list with one changed is as long as it was
pub length-change_first : {A : Type 0} (p : A → Bool) (f : A → A) (l : List A) → length (change_first p f l) ≡ length l
length-change_first p f [] = refl
length-change_first p f (a ∷ l) = either (λ m. length m ≡ suc (length l)) (p a) refl (ap suc (length-change_first p f l))

-- a list without some is no longer than it was
pub length_without : {A : Type 0} (p : A → Bool) (l : List A) → length (without p l) ≤ length l
length_without p [] = omega arith
length_without p (a ∷ l) = let k = length_without p l in either (λ m. length m ≤ suc (length l)) (p a) (omega arith) (omega arith)

-- of something that may not be there: a property, if it is
abbrev pub IfSome : {A : Type 0} → (A → Type 0) → Option A → Type 0
IfSome P none = Unit {0}
IfSome P (some a) = P a

-- what holds of the list with one changed, and of the list with one more where none passes and there is room, holds of what `enter` gives
pub enter_gives : {A : Type 0} (P : List A → Type 0) (most : ℕ) (p : A → Bool) (f : A → A) (new : A) (l : List A)
    → P (change_first p f l) → (any p l ≡ false → length l < most → P (l ++ (new ∷ []))) → IfSome P (enter most p f new l)
unfolding enter
enter_gives P most p f new l c g =
    either_by (IfSome P) (any p l) (λ s. c) (λ n. either_by (IfSome P) (ltb (length l) most) (λ r. g n (ltb-true (length l) most r)) (λ r. tt))

-- a list that `enter` gives keeps the bound on its length
pub enter-length : {A : Type 0} (most : ℕ) (p : A → Bool) (f : A → A) (new : A) (l : List A)
    → leb (length l) most ≡ true → IfSome (λ m. leb (length m) most ≡ true) (enter most p f new l)
enter-length most p f new l h =
    enter_gives (λ m. leb (length m) most ≡ true) most p f new l
    (rw length-change_first h)
    (λ n r. le-leb (length (l ++ (new ∷ []))) most (rw length-append (omega arith)))

-- and a test that all pass, that the change keeps and that the new one passes
pub enter-within : {A : Type 0} (most : ℕ) (q p : A → Bool) (f : A → A) (new : A) (l : List A)
    → ((a : A) → q a ≡ true → q (f a) ≡ true) → q new ≡ true → table_within most q l ≡ true
    → IfSome (λ m. table_within most q m ≡ true) (enter most p f new l)
enter-within most q p f new l k n h =
    let short = within-length most q l h in
    let good = within_all most q l h in
    enter_gives (λ m. table_within most q m ≡ true) most p f new l
    (table-within most q (change_first p f l) (rw length-change_first short) (all_change p q f l k good))
    (λ z r. table-within most q (l ++ (new ∷ [])) (rw length-append (omega arith)) (all_snoc q l new good n))

-- a property of each of some numbers
abbrev pub Each : (ℕ → Type 0) → List ℕ → Type 0
Each P [] = Unit {0}
Each P (x ∷ xs) = P x × Each P xs

-- what holds of each number of a list holds of one that stands in it
pub memb-each : (P : ℕ → Type 0) (n : ℕ) (ns : List ℕ) → Each P ns → memb n ns ≡ true → P n
memb-each P n [] h e = absurd (false≢true e)
memb-each P n (x ∷ ns) h e = go (eqb x n) refl (memb-each P n ns h.1) e
  where
    go : (b : Bool) → eqb x n ≡ b → (memb n ns ≡ true → P n) → pick b true (memb n ns) ≡ true → P n
    go true q k f = rw (← eqb-true x n q) h.0
    go false q k f = k f

-- a number that does not stand in a list is none that does
pub memb_never : (k n : ℕ) (ns : List ℕ) → memb k ns ≡ false → memb n ns ≡ true → n ≡ k → ⊥
memb_never k n ns out h e = let z : false ≡ true = cc in false≢true z
