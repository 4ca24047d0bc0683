-- Laws of a tabulated table and of a walk over it, stated once over the row type, the rows f and the test p.
use Prim.Native.Nat.{ℕ, zero, suc, ◌+◌, ◌-◌, ◌*◌, ◌/◌, ◌≤◌, ◌<◌, min}
use mathlib.Core.Path.{◌≡◌, refl, ap, ap₂, ◌∙◌, sym}
use mathlib.Core.Option.{Option, some, none, map}
use mathlib.Core.Bool.{Bool, true, false}
use mathlib.Core.List.{List, [], ◌∷◌, ◌++◌}
use native.Mathlib.Omega.{arith}
use native.Mathlib.Numerals.{add-one}
use native.Mathlib.Nat.{add-mul, one-mul, mul-zero, mul-le-mul_right, div-lt_iff_lt-mul, lt_of_not-le}
use native.Mathlib.Decide.{dec_le}
use lib.ListN.{length, drop, get_or, drop_of_length-le, get_or-eq_default}
use lib.Seq.{drop-cons}
use lib.Dec.{eqb}
use Rattle.model.specs.Tests.{pick, memb, place, first, examined, all}
use Rattle.std.specs.Prelude.{Option as Maybe, Some, None, is_some}
use Rattle.uds.specs.Table.{tab, is_key, place_of, row_of, examined_of, Finds, InWords}

module _ {B : Type 0} (f : ℕ → B) (m i : ℕ) where
  pub tab_cons : i < m → tab f i (m - i) ≡ f i ∷ tab f (i + 1) (m - (i + 1))
  tab_cons p = let e : m - i ≡ suc (m - (i + 1)) = omega arith in rw (e, add-one)

  pub tab-end : m ≤ i → tab f i (m - i) ≡ []
  tab-end p = let e : m - i ≡ 0 = omega arith in rw e

pub tab-length : {B : Type 0} (f : ℕ → B) (k n : ℕ) → length (tab f k n) ≡ n
tab-length f k zero = refl
tab-length f k (suc n) = ap suc (tab-length f (suc k) n)

-- from the start
pub tab-all : {B : Type 0} (f : ℕ → B) (m : ℕ) → tab f 0 m ≡ tab f 0 (m - 0)
tab-all f m = let e : m - 0 ≡ m = omega arith in rw e

-- two tables that agree
pub tab-same : {B : Type 0} (f g : ℕ → B) (k n : ℕ) → ((i : ℕ) → k ≤ i → i < k + n → f i ≡ g i) → tab f k n ≡ tab g k n
tab-same f g k zero h = refl
tab-same f g k (suc n) h = ap₂ ◌∷◌ (h k (omega arith) (omega arith)) (tab-same f g (suc k) n (λ i p q. h i (omega arith) (omega arith)))

-- one more
tab_more : {B : Type 0} (f : ℕ → B) (k n : ℕ) → tab f k (n + 1) ≡ tab f k n ++ (f (k + n) ∷ [])
tab_more f k zero = let e : k + 0 ≡ k = omega arith in rw e
tab_more f k (suc n) =
    let e : suc k + n ≡ k + suc n = omega arith in
    let s : suc n + 1 ≡ suc (n + 1) = omega arith in
    rw (s, tab_more f (suc k) n, e)

pub tab_snoc : {B : Type 0} (f : ℕ → B) (n : ℕ) → tab f 0 (n + 1) ≡ tab f 0 n ++ (f n ∷ [])
tab_snoc f n = let e : 0 + n ≡ n = omega arith in tab_more f 0 n ∙ rw e

-- a place counted from k
abbrev pub place_from : {A : Type 0} → (A → Bool) → List A → ℕ → Option ℕ
place_from p [] k = none
place_from p (a ∷ l) k = pick (p a) (some k) (place_from p l (suc k))

-- it is the definition's, moved on by k
moved : {A : Type 0} (p : A → Bool) (l : List A) (k : ℕ) → place_from p l k ≡ map (λ (j : ℕ). k + j) (place p l)
moved p [] k = refl
moved p (a ∷ l) k = go (p a) (moved p l (suc k))
  where
    step : (o : Option ℕ) → map (λ (j : ℕ). suc k + j) o ≡ map (λ (j : ℕ). k + j) (map suc o)
    step none = refl
    step (some j) = let e : suc k + j ≡ k + suc j = omega arith in rw e

    go : (b : Bool) → place_from p l (suc k) ≡ map (λ (j : ℕ). suc k + j) (place p l) → pick b (some k) (place_from p l (suc k)) ≡ map (λ (j : ℕ). k + j) (pick b (some 0) (map suc (place p l)))
    go true ih = let e : k + 0 ≡ k = omega arith in rw e
    go false ih = ih ∙ step (place p l)

pub counted : {A : Type 0} (p : A → Bool) (l : List A) → place p l ≡ place_from p l 0
counted p l = sym (moved p l 0 ∙ same (place p l))
  where
    same : (o : Option ℕ) → map (λ (j : ℕ). 0 + j) o ≡ o
    same none = refl
    same (some j) = let e : 0 + j ≡ j = omega arith in rw e

-- a turn of a lookup: what is left to look at is what it is all about
module _ {B : Type 0} (f : ℕ → B) (p : B → Bool) (m i : ℕ) (whole : Option ℕ) (inv : whole ≡ place_from p (tab f i (m - i)) i) where
  pub over : m ≤ i → none ≡ whole
  over h = sym (inv ∙ rw (tab-end f m i h))

  module _ (h : i < m) where
    pub hit : p (f i) ≡ true → some i ≡ whole
    hit e = sym (inv ∙ rw (tab_cons f m i h, e))

    pub miss : p (f i) ≡ false → whole ≡ place_from p (tab f (i + 1) (m - (i + 1))) (i + 1)
    miss e = inv ∙ rw (tab_cons f m i h, e, add-one)

-- a turn of a test of every row
module _ {B : Type 0} (f : ℕ → B) (p : B → Bool) (m i : ℕ) (whole : Bool) (inv : whole ≡ all p (tab f i (m - i))) where
  pub kept : m ≤ i → true ≡ whole
  kept h = sym (inv ∙ rw (tab-end f m i h))

  module _ (h : i < m) where
    pub broken : p (f i) ≡ false → false ≡ whole
    broken e = sym (inv ∙ rw (tab_cons f m i h, e))

    pub still : p (f i) ≡ true → whole ≡ all p (tab f (i + 1) (m - (i + 1)))
    still e = inv ∙ rw (tab_cons f m i h, e)

-- the place of the next row
pub next_row : (i step : ℕ) → (i + 1) * step ≡ i * step + step
next_row i step = add-mul i 1 step ∙ rw (one-mul step)

-- a row number and the end of the words
pub outside : (n step i : ℕ) → 0 < step → n / step < i → n < i * step
outside n step i p h = (div-lt_iff_lt-mul p).0 h

pub inside : (n step i : ℕ) → 0 < step → i ≤ n / step → i * step ≤ n
inside n step i p h = elim (dec_le (i * step) n) [ yes l ↦ l | no l ↦ absurd (let k : n / step < i = (div-lt_iff_lt-mul p).1 (lt_of_not-le l) in omega arith) ]

-- rows that stand in the words: the next one's place is no further than the end, and this one's before it
module _ {len from step n i : ℕ} (all_in : InWords len from step n) (h : i < n) where
  pub next_in : from + i * step + step ≤ len
  next_in = let m : (i + 1) * step ≤ n * step = mul-le-mul_right step (omega arith) in omega (arith, all_in.ends, next_row i step)

  pub stands_in : from + i * step < len
  stands_in = elim (dec_le step 0) [
    | yes z ↦ (let e : i * step ≡ 0 = none (omega arith) in omega (arith, all_in.begins))
    | no z ↦ omega (arith, lt_of_not-le z, next_in)
  ]
    where
      none : step ≡ 0 → i * step ≡ 0
      none z = rw z (mul-zero i)

-- two tables whose rows pass or fail alike have their first at the same place
pub place_same : {A B : Type 0} (p : A → Bool) (q : B → Bool) (f : ℕ → A) (g : ℕ → B) (k n : ℕ) → ((i : ℕ) → p (f i) ≡ q (g i)) → place p (tab f k n) ≡ place q (tab g k n)
place_same p q f g k zero h = refl
place_same p q f g k (suc n) h = rw (h k, place_same p q f g (suc k) n h)

-- what a place tells of the row
module _ {B : Type 0} (p : B → Bool) (f : ℕ → B) where
  row_from : (k n : ℕ) → map (λ (j : ℕ). f (k + j)) (place p (tab f k n)) ≡ first p (tab f k n)
  row_from k zero = refl
  row_from k (suc n) = at (p (f k)) (row_from (suc k) n)
    where
      onward : (o : Option ℕ) → map (λ (j : ℕ). f (k + j)) (map suc o) ≡ map (λ (j : ℕ). f (suc k + j)) o
      onward none = refl
      onward (some j) = let e : k + suc j ≡ suc k + j = omega arith in rw e

      at : (b : Bool) → map (λ (j : ℕ). f (suc k + j)) (place p (tab f (suc k) n)) ≡ first p (tab f (suc k) n)
          → map (λ (j : ℕ). f (k + j)) (pick b (some 0) (map suc (place p (tab f (suc k) n)))) ≡ pick b (some (f k)) (first p (tab f (suc k) n))
      at true ih = let e : k + 0 ≡ k = omega arith in rw e
      at false ih = onward (place p (tab f (suc k) n)) ∙ ih

  row_at : (n : ℕ) (r : Maybe ℕ) → place_of r ≡ place p (tab f 0 n) → row_of f r ≡ first p (tab f 0 n)
  row_at n r e = start r ∙ ap (map (λ (j : ℕ). f (0 + j))) e ∙ row_from 0 n
    where
      start : (r : Maybe ℕ) → row_of f r ≡ map (λ (j : ℕ). f (0 + j)) (place_of r)
      start (Some i) = let e : 0 + i ≡ i = omega arith in rw e
      start None = refl

-- and of the rows examined
abbrev examined_at : Option ℕ → ℕ → ℕ
examined_at none n = n
examined_at (some j) n = min (j + 1) n

examined_from : {A : Type 0} (p : A → Bool) (l : List A) → examined_at (place p l) (length l) ≡ examined p l
examined_from p [] = refl
examined_from p (a ∷ l) = at (p a) (examined_from p l)
  where
    onward : (o : Option ℕ) (n : ℕ) → examined_at (map suc o) (suc n) ≡ suc (examined_at o n)
    onward none n = refl
    onward (some j) n = omega arith

    at : (b : Bool) → examined_at (place p l) (length l) ≡ examined p l → examined_at (pick b (some 0) (map suc (place p l))) (suc (length l)) ≡ pick b 1 (suc (examined p l))
    at true ih = omega arith
    at false ih = onward (place p l) (length l) ∙ ap suc ih

examined_by : {B : Type 0} (p : B → Bool) (f : ℕ → B) (n : ℕ) (r : Maybe ℕ) → place_of r ≡ place p (tab f 0 n) → examined_of r n ≡ examined p (tab f 0 n)
examined_by p f n r e = start r ∙ ap (λ (o : Option ℕ). examined_at o n) e ∙ ap (examined_at (place p (tab f 0 n))) (sym (tab-length f 0 n)) ∙ examined_from p (tab f 0 n)
  where
    start : (r : Maybe ℕ) → examined_of r n ≡ examined_at (place_of r) n
    start (Some i) = refl
    start None = refl

-- an answer that is right of a column of keys is right of the table whose rows have those keys
pub finds : {A B : Type 0} (p : B → Bool) (f : ℕ → B) (q : A → Bool) (g : ℕ → A) (m n : ℕ) (r : Maybe ℕ) → ((i : ℕ) → p (f i) ≡ q (g i)) → m ≡ n → place_of r ≡ place q (tab g 0 m) → Finds p f n r
finds p f q g m n r h e t =
    let w : place_of r ≡ place p (tab f 0 n) = t ∙ rw e (sym (place_same p q f g 0 n h)) in
    record { where_it_stands = w; row = row_at p f n r w; rows = examined_by p f n r w }

-- a list of numbers holds one where the lookup of it has an answer
known : Option ℕ → Bool
known none = false
known (some i) = true

memb_known : (x : ℕ) (l : List ℕ) → known (place (is_key x) l) ≡ memb x l
unfolding known
memb_known x [] = refl
memb_known x (y ∷ l) = go (eqb y x) (place (is_key x) l) (memb_known x l)
  where
    go : (b : Bool) (o : Option ℕ) → known o ≡ memb x l → known (pick b (some 0) (map suc o)) ≡ pick b true (memb x l)
    go true o ih = refl
    go false none ih = ih
    go false (some i) ih = ih

pub listed : (x : ℕ) (l : List ℕ) (r : Maybe ℕ) → place_of r ≡ place (is_key x) l → is_some r ≡ memb x l
unfolding known
listed x l r e = told r ∙ ap known e ∙ memb_known x l
  where
    told : (r : Maybe ℕ) → is_some r ≡ known (place_of r)
    told (Some i) = refl
    told None = refl

-- a table of a list's elements is the list
tab_from : (f : ℕ → ℕ) (l : List ℕ) (i n : ℕ) → i + n ≡ length l → ((k : ℕ) → i ≤ k → k < i + n → f k ≡ get_or l k 0) → tab f i n ≡ drop i l
tab_from f l i zero e h = sym (drop_of_length-le l {i = i} (omega arith))
tab_from f l i (suc n) e h =
    rw (drop-cons l i 0 (omega arith), h i (omega arith) (omega arith), tab_from f l (suc i) n (omega arith) (λ k p q. h k (omega arith) (omega arith)))

pub tab_list : (f : ℕ → ℕ) (l : List ℕ) (n : ℕ) → n ≡ length l → ((k : ℕ) → k < n → f k ≡ get_or l k 0) → tab f 0 n ≡ l
tab_list f l n e h = tab_from f l 0 n (omega arith) (λ k p q. h k (omega arith))

-- an element of a table
pub tab_at : (f : ℕ → ℕ) (k n i : ℕ) → i < n → get_or (tab f k n) i 0 ≡ f (k + i)
tab_at f k zero i h = absurd (omega arith)
tab_at f k (suc n) zero h = let e : k ≡ k + 0 = omega arith in ap f e
tab_at f k (suc n) (suc i) h = let e : suc k + i ≡ k + suc i = omega arith in tab_at f (suc k) n i (omega arith) ∙ ap f e

-- a list of none holds nothing; a word that is not 0 is there
pub empty_list : (x : ℕ) (f : ℕ → ℕ) (n : ℕ) → n ≡ 0 → false ≡ memb x (tab f 0 n)
empty_list x f n e = rw e

pub there : (w : List ℕ) (i n : ℕ) → n ≡ get_or w i 0 → 0 < n → i < length w
there w i n e h = elim (dec_le (length w) i) [ yes l ↦ absurd (let z : get_or w i 0 ≡ 0 = get_or-eq_default w 0 l in omega arith) | no l ↦ lt_of_not-le l ]

-- a test of every row is a test of every word of a column
pub all_same : {A B : Type 0} (p : B → Bool) (f : ℕ → B) (q : A → Bool) (g : ℕ → A) (k n : ℕ) → ((i : ℕ) → p (f i) ≡ q (g i)) → all p (tab f k n) ≡ all q (tab g k n)
all_same p f q g k zero h = refl
all_same p f q g k (suc n) h = rw (h k, all_same p f q g (suc k) n h)

pub all_true : {B : Type 0} (p : B → Bool) (f : ℕ → B) (k n : ℕ) → ((i : ℕ) → p (f i) ≡ true) → all p (tab f k n) ≡ true
all_true p f k zero h = refl
all_true p f k (suc n) h = rw (h k, all_true p f (suc k) n h)
