-- Security access as lent words, seen as the definition's record, and what each function leaves of it. Every promise holds of any words.
use Rattle.std.specs.Prelude.{ℕ, ◌+◌, ◌*◌, ◌≤◌, ◌<◌, ◌≡◌, Bool, true, false, List, length, get_or, set, nat_le, nat_lt}
use Rattle.std.proofs.Math.Option.{Option, some, none, map}
use Rattle.model.specs.Tests.{pick, place, change_first}
use Rattle.model.specs.Numbers.{Moment, max_levels, max_seed}
use Rattle.model.specs.State.{Failed, Lock, Security, cleared, with_failed, with_locks}
use Rattle.model.specs.Service27.{is_failed, forget, seeded, increment_failed, set_lockout}
use Rattle.uds.specs.Table.{tab, is_key}

-- a word of row i, in a table of at most so many rows: past the last row it is 0, so that no table reaches into the next
abbrev pub word_at : List ℕ → ℕ → ℕ → ℕ → ℕ
word_at w most i at = pick (nat_lt i most) (get_or w at 0) 0

-- the seed's bytes
abbrev pub seed_at : List ℕ → ℕ → ℕ
seed_at w i = word_at w max_seed i (4 + i)

-- a list of levels: rows of two words, a level and its number; `from` is where the first row has the one or the other
abbrev pub row_at : List ℕ → ℕ → ℕ → ℕ
row_at w from i = word_at w max_levels i (from + 2 * i)

abbrev pub failed_at : List ℕ → ℕ → Failed
failed_at w i = record { level = row_at w 36 i; count = row_at w 37 i }

abbrev pub lock_at : List ℕ → ℕ → Lock
lock_at w i = record { level = row_at w 52 i; until = row_at w 53 i }

-- as many of each as the first words say, also where that is more than there is room for
abbrev pub security_of : List ℕ → Security
security_of w = record {
  seed = tab (seed_at w) 0 (get_or w 0 0);
  seed_level = get_or w 1 0;
  failed = tab (failed_at w) 0 (get_or w 2 0);
  locks = tab (lock_at w) 0 (get_or w 3 0);
}

-- where a level stands in the list that begins at `from` and is counted at `counter`: nowhere if that count is no list's
abbrev pub placed : List ℕ → ℕ → ℕ → ℕ → Option ℕ
placed w counter from level = pick (nat_le (get_or w counter 0) max_levels) (place (is_key level) (tab (row_at w from) 0 (get_or w counter 0))) none

-- the number beside it, and 0 where the level has none
abbrev pub number_at : List ℕ → ℕ → Option ℕ → ℕ
number_at w from none = 0
number_at w from (some i) = row_at w (from + 1) i

-- a number put beside its level: in the level's row, or in a new one at the end; where there is no room for that, every word is as it was. The array
-- is as long as its type says
pub record Puts (before : List ℕ) (counter from level number : ℕ) (r : Bool) (after : List ℕ) : Type 0 where
  pub again : (i : ℕ) → placed before counter from level ≡ some i → (r ≡ true) × (after ≡ set before (from + 2 * i + 1) number)
  pub first : placed before counter from level ≡ none → get_or before counter 0 < max_levels
      → (r ≡ true) × (after ≡ set (set (set before (from + 2 * get_or before counter 0) level) (from + 2 * get_or before counter 0 + 1) number) counter (get_or before counter 0 + 1))
  pub full : placed before counter from level ≡ none → max_levels ≤ get_or before counter 0 → (r ≡ false) × (after ≡ before)
  pub words : length before ≡ 68

-- one thing of a list of at most eight, another where it is longer and so is no list of levels
abbrev pub listed : {A B : Type 0} → List A → B → B → B
listed l x y = pick (nat_le (length l) max_levels) x y

-- one more refused key of the level; the level locked until a moment: none where a list has no room, or is none
abbrev pub counted : Security → ℕ → Option Security
counted k level = listed k.failed (map (with_failed k) (increment_failed level k.failed)) none

abbrev pub locked_until : Security → ℕ → Moment → Option Security
locked_until k level until = listed k.locks (map (with_locks k) (set_lockout level until k.locks)) none

-- no refused key of the level, if it has a count
abbrev pub forgotten : Security → ℕ → Security
forgotten k level = listed k.failed (with_failed k (change_first (is_failed level) forget k.failed)) k

-- an entry, if there was room for it
abbrev pub entered_of : Bool → List ℕ → Option Security
entered_of r w = pick r (some (security_of w)) none

-- and where there was none, every word as it was; the seed's bytes are, in either case
pub record Enters (before : List ℕ) (o : Option Security) (r : Bool) (after : List ℕ) : Type 0 where
  pub answer : entered_of r after ≡ o
  pub full : r ≡ false → after ≡ before
  pub seed : (i : ℕ) → seed_at after i ≡ seed_at before i

-- the count of a level set to 0, if it has one
pub record Resets (before : List ℕ) (level : ℕ) (after : List ℕ) : Type 0 where
  pub state : security_of after ≡ forgotten (security_of before) level
  pub seed : (i : ℕ) → seed_at after i ≡ seed_at before i

-- the seed's bytes from one place to another are those of a list, 0 past its end, and every other word is as it was
pub record Fills (before bytes : List ℕ) (from to : ℕ) (after : List ℕ) : Type 0 where
  pub put : (j : ℕ) → from ≤ j → j < to → get_or after (4 + j) 0 ≡ get_or bytes j 0
  pub below : (j : ℕ) → j < 4 + from → get_or after j 0 ≡ get_or before j 0
  pub above : (j : ℕ) → 4 + to ≤ j → get_or after j 0 ≡ get_or before j 0

-- no seed awaits its key, and no byte of it is left
pub record Clears (before after : List ℕ) : Type 0 where
  pub state : security_of after ≡ cleared (security_of before)
  pub overwritten : (i : ℕ) → seed_at after i ≡ 0

-- what stands in byte i's place: the seed's, 0 past its end, and 0 everywhere where a seed is too long to be kept
abbrev pub kept_seed : List ℕ → ℕ → ℕ
kept_seed seed i = pick (nat_le (length seed) max_seed) (get_or seed i 0) 0

-- a seed of at most 32 bytes that awaits its key, and no byte of an earlier one; a longer one leaves none
pub record Seeds (before : List ℕ) (level : ℕ) (seed after : List ℕ) : Type 0 where
  pub state : security_of after ≡ pick (nat_le (length seed) max_seed) (seeded (security_of before) level seed) (cleared (security_of before))
  pub overwritten : (i : ℕ) → seed_at after i ≡ kept_seed seed i

-- the seed cleared, or every word as it was
pub record ClearsIf (before : List ℕ) (clears : Bool) (after : List ℕ) : Type 0 where
  pub state : security_of after ≡ pick clears (cleared (security_of before)) (security_of before)
  pub overwritten : clears ≡ true → (i : ℕ) → seed_at after i ≡ 0
  pub kept : clears ≡ false → after ≡ before
