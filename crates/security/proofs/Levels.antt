-- The two lists of levels, refused keys and locks, are alike: rows of a level and a number, one search and one entry. Each law is said of both.
use Prim.Native.Nat.{ℕ, ◌+◌, ◌*◌, ◌≤◌, ◌<◌, min}
use mathlib.Core.Path.{◌≡◌, refl, ap, ap₂, sym, ◌∙◌}
use mathlib.Core.Bool.{Bool, true, false, ◌&&◌, false≢true}
use mathlib.Core.List.{List}
use mathlib.Core.Option.{Option, some, none, map, none-ne-some}
use native.Mathlib.Decide.{dec_le}
use native.Mathlib.Omega.{arith}
use lib.ListN.{length, get_or, set, length-set}
use lib.Seq.{get_or-set_same, get_or-set_other}
use lib.Dec.{eqb, leb, ltb}
use borrow.Author.Tests.{le-leb, lt-leb, le-ltb}
use Rattle.model.specs.Tests.{pick, all, first, place, change_first, enter}
use Rattle.model.specs.Numbers.{Moment, max_levels}
use Rattle.model.specs.State.{Security, with_failed, with_locks, lock_valid, security_valid}
use Rattle.model.specs.Service27.{is_failed, is_lock, holds, count_of, forget, raise, relock}
use Rattle.uds.specs.Table.{tab, is_key, place_of}
use Rattle.std.specs.Prelude.{Option as Maybe, Some, None}
use Rattle.uds.proofs.Tab.{finds, place_same, tab-length}
use Rattle.uds.proofs.Tables.{any_some, change_none, change_at, enter-new, enter-full, passing}
use Rattle.security.specs.View.{seed_at, row_at, failed_at, lock_at, security_of, placed, number_at, listed, counted, locked_until, Puts, Enters, Resets}
use Rattle.security.proofs.Words.{word-here, word_same, rows, failed_pair, lock_pair, seed-same, only_failed, only_locks}

-- what a place in a list tells: the count is a list's, and the row stands in it
module _ (w : List ℕ) (counter from level : ℕ) where
  abbrev n : ℕ
  n = get_or w counter 0

  abbrev keys : List ℕ
  keys = tab (row_at w from) 0 n

  pub keeps : (i : ℕ) → placed w counter from level ≡ some i → n ≤ 8
  keeps i e = elim (dec_le n 8) [ yes k ↦ k | no k ↦ absurd (none-ne-some i (rw (lt-leb n 8 (omega arith)) at e)) ]

  pub among : n ≤ 8 → placed w counter from level ≡ place (is_key level) keys
  among h = rw (le-leb n 8 h)

  pub inside : (i : ℕ) → placed w counter from level ≡ some i → i < n
  inside i e = (passing (is_key level) (row_at w from) 0 n i (sym (among (keeps i e)) ∙ e)).below

  -- what a search answers of it
  module _ (r : Maybe ℕ) (e : place_of r ≡ placed w counter from level) where
    pub found_at : (i : ℕ) → r ≡ Some i → placed w counter from level ≡ some i
    found_at i h = sym e ∙ ap place_of h

    pub found_none : r ≡ None → placed w counter from level ≡ none
    found_none h = sym e ∙ ap place_of h

    -- a number put where the search says
    pub put-again : (i number : ℕ) → r ≡ Some i → length w ≡ 68 → Puts w counter from level number true (set w (from + 2 * i + 1) number)
    put-again i number h l = record {
      again = λ j z. let s : j ≡ i = cc in (refl, rw s);
      first = λ z q. absurd (none-ne-some i (sym z ∙ found_at i h));
      full = λ z q. absurd (none-ne-some i (sym z ∙ found_at i h));
      words = l;
    }

  -- a number, or what is said of the level's row: the same of both lists
  module _ {B : Type 0} (pair : ℕ → ℕ → B) (p : B → Bool) (same : (x y : ℕ) → p (pair x y) ≡ eqb x level) where
    abbrev row : ℕ → B
    row = rows pair w from

    pub says : {A : Type 0} (say : Option B → A) (num : ℕ → A) → say none ≡ num 0 → ((x y : ℕ) → say (some (pair x y)) ≡ num y)
        → num (number_at w from (placed w counter from level)) ≡ listed (tab row 0 n) (say (first p (tab row 0 n))) (say none)
    says say num z s = elim (dec_le n 8) [ yes k ↦ known k | no k ↦ unknown (omega arith) ]
      where
        go : (o : Option ℕ) → place (is_key level) keys ≡ o → num (number_at w from o) ≡ say (first p (tab row 0 n))
        go (some i) e = sym (s (row_at w from i) (row_at w (from + 1) i)) ∙ ap say (finds p row (is_key level) (row_at w from) n n (Some i) (λ j. same (row_at w from j) (row_at w (from + 1) j)) refl (sym e)).row
        go none e = sym z ∙ ap say (finds p row (is_key level) (row_at w from) n n None (λ j. same (row_at w from j) (row_at w (from + 1) j)) refl (sym e)).row

        known : n ≤ 8 → num (number_at w from (placed w counter from level)) ≡ listed (tab row 0 n) (say (first p (tab row 0 n))) (say none)
        known k = rw (tab-length row 0 n, le-leb n 8 k) (go (place (is_key level) keys) refl)

        unknown : 8 < n → num (number_at w from (placed w counter from level)) ≡ listed (tab row 0 n) (say (first p (tab row 0 n))) (say none)
        unknown k = rw (tab-length row 0 n, lt-leb n 8 k) (sym z)

pub count-said : (w : List ℕ) (level : ℕ) → number_at w 36 (placed w 2 36 level) ≡ listed (security_of w).failed (count_of (first (is_failed level) (security_of w).failed)) 0
count-said w level = says w 2 36 level failed_pair (is_failed level) (λ x y. refl) count_of (λ (x : ℕ). x) refl (λ x y. refl)

pub lock-said : (w : List ℕ) (level : ℕ) (t : Moment) → ltb t (number_at w 52 (placed w 3 52 level)) ≡ listed (security_of w).locks (holds t (first (is_lock level) (security_of w).locks)) false
lock-said w level t = says w 3 52 level lock_pair (is_lock level) (λ x y. refl) (holds t) (λ (x : ℕ). ltb t x) (sym (le-ltb t 0 (omega arith))) (λ x y. refl)

-- a number put beside a level is an entry into the list, and touches nothing else
module _ {B : Type 0} (pair : ℕ → ℕ → B) (p : B → Bool) (b a : List ℕ) (counter from level number : ℕ) (r : Bool) (h : Puts b counter from level number r a) (low : counter < 4) (high : 4 ≤ from) (ends : from ≤ 52) where
  l : length b ≡ 68
  l = h.words

  abbrev many : ℕ
  many = get_or b counter 0

  abbrev known : Option ℕ
  known = placed b counter from level

  abbrev was : ℕ → B
  was = rows pair b from

  abbrev is : ℕ → B
  is = rows pair a from

  -- the words that a number and a new row are written to
  again_other : (i j : ℕ) → known ≡ some i → (j ≡ from + 2 * i + 1 → ⊥) → get_or a j 0 ≡ get_or b j 0
  again_other i j e z = ap (λ (w : List ℕ). get_or w j 0) (h.again i e).1 ∙ get_or-set_other b (from + 2 * i + 1) j number 0 z

  again-here : (i j : ℕ) → known ≡ some i → i < 8 → j ≡ from + 2 * i + 1 → get_or a j 0 ≡ number
  again-here i j e q z = rw z (ap (λ (w : List ℕ). get_or w (from + 2 * i + 1) 0) (h.again i e).1 ∙ get_or-set_same b (from + 2 * i + 1) number 0 (omega (arith, l)))

  module _ (e : known ≡ none) (q : many < 8) where
    abbrev one : List ℕ
    one = set b (from + 2 * many) level

    abbrev two : List ℕ
    two = set one (from + 2 * many + 1) number

    new_word : (j : ℕ) → get_or a j 0 ≡ get_or (set two counter (many + 1)) j 0
    new_word j = ap (λ (w : List ℕ). get_or w j 0) (h.first e q).1

    new_other : (j : ℕ) → (j ≡ counter → ⊥) → (j ≡ from + 2 * many → ⊥) → (j ≡ from + 2 * many + 1 → ⊥) → get_or a j 0 ≡ get_or b j 0
    new_other j x y z = new_word j ∙ get_or-set_other two counter j (many + 1) 0 x ∙ get_or-set_other one (from + 2 * many + 1) j number 0 z ∙ get_or-set_other b (from + 2 * many) j level 0 y

    new-count : get_or a counter 0 ≡ many + 1
    new-count = new_word counter ∙ get_or-set_same two counter (many + 1) 0 (simp length-set (omega (arith, l)))

    new-level : get_or a (from + 2 * many) 0 ≡ level
    new-level = new_word (from + 2 * many) ∙ get_or-set_other two counter (from + 2 * many) (many + 1) 0 (λ z. omega arith) ∙ get_or-set_other one (from + 2 * many + 1) (from + 2 * many) number 0 (λ z. omega arith) ∙ get_or-set_same b (from + 2 * many) level 0 (omega (arith, l))

    new-number : (j : ℕ) → j ≡ from + 2 * many + 1 → get_or a j 0 ≡ number
    new-number j s = rw s (new_word (from + 2 * many + 1) ∙ get_or-set_other two counter (from + 2 * many + 1) (many + 1) 0 (λ z. omega arith) ∙ get_or-set_same one (from + 2 * many + 1) number 0 (simp length-set (omega (arith, l))))

  -- every other word is as it was
  pub elsewhere : (j : ℕ) → (j ≡ counter → ⊥) → ((x : ℕ) → x < 16 → j ≡ from + x → ⊥) → get_or a j 0 ≡ get_or b j 0
  elsewhere j x y = go known refl
    where
      go : (o : Option ℕ) → known ≡ o → get_or a j 0 ≡ get_or b j 0
      go (some i) e = let k = keeps b counter from level i e in let q = inside b counter from level i e in again_other i j e (λ z. y (2 * i + 1) (omega arith) (omega arith))
      go none e = elim (dec_le 8 many) [
        | yes q ↦ ap (λ (w : List ℕ). get_or w j 0) (h.full e q).1
        | no q ↦ (let s : many < 8 = omega arith in new_other e s j x (λ z. y (2 * many) (omega arith) z) (λ z. y (2 * many + 1) (omega arith) (omega arith)))
      ]

  -- the list is the definition's
  module _ (same : (x y : ℕ) → p (pair x y) ≡ eqb x level) (change : B → B) (new : B) (fresh : known ≡ none → pair level number ≡ new) (renewed : (i : ℕ) → known ≡ some i → pair (row_at b from i) number ≡ change (was i)) where
    Entered : Type 0
    Entered = pick r (some (tab is 0 (get_or a counter 0))) none ≡ listed (tab was 0 many) (enter max_levels p change new (tab was 0 many)) none

    stands : many ≤ 8 → (o : Option ℕ) → known ≡ o → place p (tab was 0 many) ≡ o
    stands k o e = place_same p (is_key level) was (row_at b from) 0 many (λ i. same (row_at b from i) (row_at b (from + 1) i)) ∙ sym (among b counter from level k) ∙ e

    pub changed : (i : ℕ) → known ≡ some i → change_first p change (tab was 0 many) ≡ tab is 0 (get_or a counter 0)
    changed i e =
        let o : 0 + i ≡ i = omega arith in
        rw (again_other i counter e (λ z. omega arith)) (change_at p change was is 0 many i (stands (keeps b counter from level i e) (some i) e) (rw o here) (λ j v w x. other j (λ z. x (z ∙ sym o))))
      where
        level-kept : (j : ℕ) → row_at a from j ≡ row_at b from j
        level-kept j = word_same b a max_levels j (from + 2 * j) (λ w. again_other i (from + 2 * j) e (λ z. omega arith))

        below : i < 8
        below = omega (arith, keeps b counter from level i e, inside b counter from level i e)

        here : is i ≡ change (was i)
        here = ap₂ pair (level-kept i) (word-here a max_levels i (from + 1 + 2 * i) below ∙ again-here i (from + 1 + 2 * i) e below (omega arith)) ∙ renewed i e

        other : (j : ℕ) → (j ≡ i → ⊥) → is j ≡ was j
        other j v = ap₂ pair (level-kept j) (word_same b a max_levels j (from + 1 + 2 * j) (λ u. again_other i (from + 1 + 2 * j) e (λ z. v (omega arith))))

    in_its-row : (i : ℕ) → known ≡ some i → Entered
    unfolding Entered enter
    in_its-row i e =
        let k = keeps b counter from level i e in
        rw ((h.again i e).0, tab-length was 0 many, le-leb many 8 k, any_some p (tab was 0 many) i (stands k (some i) e)) (ap some (sym (changed i e)))

    in_a_new-row : known ≡ none → many < 8 → Entered
    unfolding Entered
    in_a_new-row e q =
        rw ((h.first e q).0, new-count e q, tab-length was 0 many, le-leb many 8 (omega arith)) (sym (enter-new p max_levels change new was is many (stands (omega arith) none e) q last other))
      where
        last : is many ≡ new
        last = ap₂ pair (word-here a max_levels many (from + 2 * many) q ∙ new-level e q) (word-here a max_levels many (from + 1 + 2 * many) q ∙ new-number e q (from + 1 + 2 * many) (omega arith)) ∙ fresh e

        other : (j : ℕ) → j < many → is j ≡ was j
        other j w =
            ap₂ pair
            (word_same b a max_levels j (from + 2 * j) (λ u. new_other e q (from + 2 * j) (λ z. omega arith) (λ z. omega arith) (λ z. omega arith)))
            (word_same b a max_levels j (from + 1 + 2 * j) (λ u. new_other e q (from + 1 + 2 * j) (λ z. omega arith) (λ z. omega arith) (λ z. omega arith)))

    nowhere : known ≡ none → 8 ≤ many → Entered
    unfolding Entered
    nowhere e q = rw ((h.full e q).0, tab-length was 0 many) (elim (dec_le many 8) [
      | yes k ↦ rw (le-leb many 8 k) (sym (enter-full p max_levels change new was many (stands k none e) q))
      | no k ↦ rw (lt-leb many 8 (omega arith))
    ])

    entered : (o : Option ℕ) → known ≡ o → Entered
    entered (some i) e = in_its-row i e
    entered none e = elim (dec_le 8 many) [ yes q ↦ nowhere e q | no q ↦ in_a_new-row e (omega arith) ]

    -- and so is the record, where the list is all that changed
    pub enters : (with : List B → Security) → security_of a ≡ with (tab is 0 (get_or a counter 0)) → ((i : ℕ) → seed_at a i ≡ seed_at b i) → Enters b (listed (tab was 0 many) (map with (enter max_levels p change new (tab was 0 many))) none) r a
    unfolding Entered
    enters with s t = record {
      answer = ap (λ (k : Security). pick r (some k) none) s ∙ outer r (tab is 0 (get_or a counter 0)) ∙ ap (map with) (entered known refl) ∙ inner (leb (length (tab was 0 many)) max_levels) (enter max_levels p change new (tab was 0 many));
      full = λ z. no_room z known refl;
      seed = t;
    }
      where
        outer : (t : Bool) (x : List B) → pick t (some (with x)) none ≡ map with (pick t (some x) none)
        outer true x = refl
        outer false x = refl

        inner : (t : Bool) (o : Option (List B)) → map with (pick t o none) ≡ pick t (map with o) none
        inner true o = refl
        inner false o = refl

        no_room : r ≡ false → (o : Option ℕ) → known ≡ o → a ≡ b
        no_room z (some i) e = absurd (false≢true (sym z ∙ (h.again i e).0))
        no_room z none e = elim (dec_le 8 many) [ yes q ↦ (h.full e q).1 | no q ↦ absurd (false≢true (sym z ∙ (h.first e (omega arith)).0)) ]

-- a refused key counted
module _ (b a : List ℕ) (level number : ℕ) (r : Bool) (h : Puts b 2 36 level number r a) where
  low-words : (j : ℕ) → (j ≡ 2 → ⊥) → j < 36 → get_or a j 0 ≡ get_or b j 0
  low-words j x y = elsewhere failed_pair (is_failed level) b a 2 36 level number r h (omega arith) (omega arith) (omega arith) j x (λ i p q. omega arith)

  pub count_alone : security_of a ≡ with_failed (security_of b) (security_of a).failed
  count_alone = only_failed b a low-words (λ j p. elsewhere failed_pair (is_failed level) b a 2 36 level number r h (omega arith) (omega arith) (omega arith) j (λ z. omega arith) (λ i s t. omega arith))

  pub seed_by_count : (i : ℕ) → seed_at a i ≡ seed_at b i
  seed_by_count = seed-same b a (λ j p q. low-words j (λ z. omega arith) q)

  pub counts : number ≡ min (number_at b 36 (placed b 2 36 level) + 1) 255 → Enters b (counted (security_of b) level) r a
  counts e =
      enters failed_pair (is_failed level) b a 2 36 level number r h (omega arith) (omega arith) (omega arith) (λ x y. refl) raise (failed_pair level 1)
      (λ z. ap (failed_pair level) (e ∙ ap (λ (o : Option ℕ). min (number_at b 36 o + 1) 255) z))
      (λ i z. ap (failed_pair (row_at b 36 i)) (e ∙ ap (λ (o : Option ℕ). min (number_at b 36 o + 1) 255) z))
      (with_failed (security_of b)) count_alone seed_by_count

-- a level locked
pub locks : (b a : List ℕ) (level until : ℕ) (r : Bool) → Puts b 3 52 level until r a → Enters b (locked_until (security_of b) level until) r a
locks b a level until r h =
    enters lock_pair (is_lock level) b a 3 52 level until r h (omega arith) (omega arith) (omega arith) (λ x y. refl) (relock until) (lock_pair level until) (λ z. refl) (λ i z. refl)
    (with_locks (security_of b)) (only_locks b a apart) (seed-same b a (λ j p q. apart j (λ z. omega arith) (omega arith)))
  where
    apart : (j : ℕ) → (j ≡ 3 → ⊥) → j < 52 → get_or a j 0 ≡ get_or b j 0
    apart j x y = elsewhere lock_pair (is_lock level) b a 3 52 level until r h (omega arith) (omega arith) (omega arith) j x (λ i p q. omega arith)

-- a count set to 0, if the level has one
module _ (b : List ℕ) (level : ℕ) (r : Maybe ℕ) (e : place_of r ≡ placed b 2 36 level) where
  abbrev many_failed : ℕ
  many_failed = get_or b 2 0

  pub reset-none : r ≡ None → Resets b level b
  reset-none h = record { state = rw (tab-length (failed_at b) 0 many_failed) (elim (dec_le many_failed 8) [ yes k ↦ rw (le-leb many_failed 8 k) (kept k) | no k ↦ rw (lt-leb many_failed 8 (omega arith)) ]); seed = λ i. refl }
    where
      kept : many_failed ≤ 8 → security_of b ≡ with_failed (security_of b) (change_first (is_failed level) forget (security_of b).failed)
      kept k =
          ap (with_failed (security_of b))
          (sym (change_none (is_failed level) forget (security_of b).failed (place_same (is_failed level) (is_key level) (failed_at b) (row_at b 36) 0 many_failed (λ i. refl) ∙ sym (among b 2 36 level k) ∙ found_none b 2 36 level r e h)))

  module _ (i : ℕ) (h : r ≡ Some i) (l : length b ≡ 68) where
    abbrev zeroed : List ℕ
    zeroed = set b (36 + 2 * i + 1) 0

    put : Puts b 2 36 level 0 true zeroed
    put = put-again b 2 36 level r e i 0 h l

    none-counted : change_first (is_failed level) forget (security_of b).failed ≡ (security_of zeroed).failed
    none-counted =
        changed failed_pair (is_failed level) b zeroed 2 36 level 0 true put (omega arith) (omega arith) (omega arith) (λ x y. refl) forget (failed_pair level 0) (λ z. refl) (λ j z. refl) i (found_at b 2 36 level r e i h)

    pub reset_one : Resets b level zeroed
    reset_one = record {
      state = rw (tab-length (failed_at b) 0 many_failed, le-leb many_failed 8 (keeps b 2 36 level i (found_at b 2 36 level r e i h))) (count_alone b zeroed level 0 true put ∙ ap (with_failed (security_of b)) (sym none-counted));
      seed = seed_by_count b zeroed level 0 true put;
    }

-- words that keep their numbers
pub valid_by : (w : List ℕ) → security_valid (security_of w) ≡ leb (get_or w 0 0) 32 && leb (get_or w 2 0) 8 && (leb (get_or w 3 0) 8 && all lock_valid (tab (lock_at w) 0 (get_or w 3 0)))
unfolding security_valid
valid_by w = rw (tab-length (seed_at w) 0 (get_or w 0 0), tab-length (failed_at w) 0 (get_or w 2 0), tab-length (lock_at w) 0 (get_or w 3 0))
