-- Whether an image keeps the numbers is told by its four counts.
use Prim.Native.Nat.{ℕ, ◌+◌, ◌*◌, ◌^◌, ◌<◌}
use mathlib.Core.Path.{◌≡◌, refl}
use mathlib.Core.Bool.{Bool, true, false, ◌&&◌}
use mathlib.Core.List.{List}
use native.Mathlib.Omega.{arith}
use lib.ListN.{length, get_or}
use lib.Dec.{leb, ltb}
use borrow.Author.Tests.{le-leb, lt-ltb}
use Rattle.model.specs.Numbers.{max_sessions, max_services, max_dids, max_levels, max_listed, max_seed, max_span}
use Rattle.model.specs.Config.{within, table_within, session_within, service_within, did_within, level_within}
use Rattle.uds.specs.Table.{tab, column}
use Rattle.uds.proofs.Tab.{tab-length, all_true}
use Rattle.config.specs.View.{capped, list_at, session_at, service_at, did_at, level_at, session_count, service_count, did_count, level_count, config_of}

-- every word of an image is below 2^32
abbrev pub Small : List ℕ → Type 0
Small w = (j : ℕ) → get_or w j 0 < 2 ^ 32

-- a table all of whose rows keep the numbers keeps them where it has few
by_count : {B : Type 0} (most : ℕ) (p : B → Bool) (f : ℕ → B) (n : ℕ) → ((i : ℕ) → p (f i) ≡ true) → table_within most p (tab f 0 n) ≡ leb n most
by_count most p f n rows = rw (tab-length f 0 n, all_true p f 0 n rows) (and-true (leb n most))
  where
    and-true : (b : Bool) → (b && true) ≡ b
    and-true true = refl
    and-true false = refl

-- a list and a length are never too long, and a word is a span
short : (w : List ℕ) (at : ℕ) → leb (length (list_at w at)) max_listed ≡ true
short w at = le-leb (length (list_at w at)) max_listed (omega (arith, tab-length (column w (at + 1) 1) 0 (capped (get_or w at 0) max_listed)))

low : (x most : ℕ) → leb (capped x most) most ≡ true
low x most = le-leb (capped x most) most (omega arith)

module _ (w : List ℕ) (small : Small w) where
  span : (j : ℕ) → ltb (get_or w j 0) max_span ≡ true
  span j = lt-ltb (get_or w j 0) max_span (small j)

  -- so each row keeps the numbers
  session-row : (i : ℕ) → session_within (session_at w i) ≡ true
  session-row i = rw (span (7 + i * 4), span (8 + i * 4), span (9 + i * 4))

  service-row : (i : ℕ) → service_within (service_at w i) ≡ true
  service-row i = short w (39 + i * 10)

  did-row : (i : ℕ) → did_within (did_at w i) ≡ true
  did-row i = rw (short w (281 + i * 21), short w (290 + i * 21), span (280 + i * 21))

  level-row : (i : ℕ) → level_within (level_at w i) ≡ true
  level-row i = rw (span (2968 + i * 5), low (column w 2969 5 i) max_seed, low (column w 2970 5 i) max_seed)

  pub by_counts : within (config_of w) ≡ (leb (session_count w) max_sessions && leb (service_count w) max_services && leb (did_count w) max_dids && leb (level_count w) max_levels)
  unfolding within
  by_counts =
      rw (
        by_count max_sessions session_within (session_at w) (session_count w) session-row,
        by_count max_services service_within (service_at w) (service_count w) service-row,
        by_count max_dids did_within (did_at w) (did_count w) did-row,
        by_count max_levels level_within (level_at w) (level_count w) level-row,
      )
