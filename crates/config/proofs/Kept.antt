-- What a configuration that keeps its numbers tells of its image, and when one that is given a row more keeps them.
use Prim.Native.Nat.{ℕ, ◌+◌, ◌*◌, ◌≤◌, ◌<◌}
use mathlib.Core.Path.{◌≡◌, refl, ap, ◌∙◌}
use mathlib.Core.Bool.{Bool, true, false, ◌&&◌}
use mathlib.Core.List.{List, [], ◌∷◌, ◌++◌}
use native.Mathlib.Omega.{arith}
use lib.ListN.{length, length-append}
use lib.Dec.{ltb}
use borrow.Author.Tests.{leb-true, le-leb, lt-leb, lt-ltb, le-ltb}
use native.Mathlib.Decide.{dec_le}
use native.Mathlib.Nat.{lt_of_not-le, mul-le-mul_right}
use Rattle.model.specs.Tests.{pick, all}
use Rattle.model.proofs.Laws.{left, right}
use Rattle.model.specs.Numbers.{max_sessions, max_services, max_dids, max_levels}
use Rattle.model.specs.Config.{SessionConfig, ServiceConfig, DidConfig, SecurityLevelConfig, Config, within, table_within, session_within, service_within, did_within, level_within}
use Rattle.uds.specs.Table.{tab}
use Rattle.config.specs.View.{session_at, service_at, did_at, level_at, session_count, service_count, did_count, level_count, config_of}
use Rattle.config.specs.Build.{add_session, add_service, add_did, add_level, settled, overfull_words}
use Rattle.uds.proofs.Tab.{tab-length, next_row}

-- a table that keeps its numbers has few rows
few : {B : Type 0} (most : ℕ) (p : B → Bool) (f : ℕ → B) (n : ℕ) → table_within most p (tab f 0 n) ≡ true → n ≤ most
few most p f n e = omega (arith, leb-true (length (tab f 0 n)) most (left _ (all p (tab f 0 n)) e), tab-length f 0 n)

-- what an image keeps
pub record Kept (w : List ℕ) : Type 0 where
  pub sessions : session_count w ≤ 8
  pub services : service_count w ≤ 24
  pub dids : did_count w ≤ 128
  pub levels : level_count w ≤ 8

pub kept : (w : List ℕ) → within (config_of w) ≡ true → Kept w
unfolding within
kept w e =
    let s = table_within max_sessions session_within (tab (session_at w) 0 (session_count w)) in
    let v = table_within max_services service_within (tab (service_at w) 0 (service_count w)) in
    let d = table_within max_dids did_within (tab (did_at w) 0 (did_count w)) in
    let l = table_within max_levels level_within (tab (level_at w) 0 (level_count w)) in
    let three : (s && v && d) ≡ true = left _ l e in
    let two : (s && v) ≡ true = left _ d three in
    record {
      sessions = few max_sessions session_within (session_at w) (session_count w) (left _ v two);
      services = few max_services service_within (service_at w) (service_count w) (right s _ two);
      dids = few max_dids did_within (did_at w) (did_count w) (right (s && v) _ three);
      levels = few max_levels level_within (level_at w) (level_count w) (right (s && v && d) _ e);
    }

-- one row more: there is room for it, and it keeps the numbers too
all_more : {B : Type 0} (p : B → Bool) (l : List B) (r : B) → all p (l ++ (r ∷ [])) ≡ (all p l && p r)
all_more p [] r = go (p r)
  where
    go : (b : Bool) → (b && true) ≡ b
    go true = refl
    go false = refl
all_more p (a ∷ l) r = rw (all_more p l r) (go (p a) (all p l) (p r))
  where
    go : (a b c : Bool) → (a && (b && c)) ≡ ((a && b) && c)
    go true b c = refl
    go false b c = refl

-- a table of a row more
more : {B : Type 0} (most : ℕ) (p : B → Bool) (l : List B) (r : B) → table_within most p (l ++ (r ∷ [])) ≡ ((table_within most p l && ltb (length l) most) && p r)
more most p l r = elim (dec_le most (length l)) [ yes h ↦ full h | no h ↦ room (lt_of_not-le h) ]
  where
    shut : (a b : Bool) → false ≡ ((a && false) && b)
    shut true b = refl
    shut false b = refl

    open_to : (a b : Bool) → (a && b) ≡ ((a && true) && b)
    open_to true b = refl
    open_to false b = refl

    full : most ≤ length l → table_within most p (l ++ (r ∷ [])) ≡ ((table_within most p l && ltb (length l) most) && p r)
    full h =
        rw (lt-leb (length (l ++ (r ∷ []))) most (omega (arith, length-append l (r ∷ []))), le-ltb (length l) most h) (shut (table_within most p l) (p r))

    room : length l < most → table_within most p (l ++ (r ∷ [])) ≡ ((table_within most p l && ltb (length l) most) && p r)
    room h =
        rw (le-leb (length (l ++ (r ∷ []))) most (omega (arith, length-append l (r ∷ []))), lt-ltb (length l) most h, le-leb (length l) most (omega arith), all_more p l r) (open_to (all p l) (p r))

-- two tests more of one table are two tests more of the whole
swap : (x r o b : Bool) → (((x && r) && o) && b) ≡ (((x && b) && r) && o)
swap false r o b = refl
swap true false o true = refl
swap true false o false = refl
swap true true true true = refl
swap true true true false = refl
swap true true false true = refl
swap true true false false = refl

push : (x y r o : Bool) → (x && ((y && r) && o)) ≡ (((x && y) && r) && o)
push true y r o = refl
push false y r o = refl

module _ (a b c d r o : Bool) where
  first-table : (((((a && r) && o) && b) && c) && d) ≡ (((((a && b) && c) && d) && r) && o)
  first-table = rw (swap a r o b, swap (a && b) r o c, swap (a && b && c) r o d)

  second_table : (((a && ((b && r) && o)) && c) && d) ≡ (((((a && b) && c) && d) && r) && o)
  second_table = rw (push a b r o, swap (a && b) r o c, swap (a && b && c) r o d)

  third_table : (((a && b) && ((c && r) && o)) && d) ≡ (((((a && b) && c) && d) && r) && o)
  third_table = rw (push (a && b) c r o, swap (a && b && c) r o d)

  fourth_table : (((a && b) && c) && ((d && r) && o)) ≡ (((((a && b) && c) && d) && r) && o)
  fourth_table = rw (push (a && b && c) d r o)

-- whether a configuration with a row more keeps the numbers: the configuration does, there is room, and the row does
module _ (c : Config) where
  sessions_ok : Bool
  sessions_ok = table_within max_sessions session_within c.sessions

  services_ok : Bool
  services_ok = table_within max_services service_within c.services

  dids_ok : Bool
  dids_ok = table_within max_dids did_within c.dids

  levels_ok : Bool
  levels_ok = table_within max_levels level_within c.levels

  pub with_session : (r : SessionConfig) → within (add_session c r) ≡ ((within c && ltb (length c.sessions) max_sessions) && session_within r)
  unfolding within sessions_ok services_ok dids_ok levels_ok
  with_session r = rw (more max_sessions session_within c.sessions r) (first-table sessions_ok services_ok dids_ok levels_ok (ltb (length c.sessions) max_sessions) (session_within r))

  pub with_service : (r : ServiceConfig) → within (add_service c r) ≡ ((within c && ltb (length c.services) max_services) && service_within r)
  unfolding within sessions_ok services_ok dids_ok levels_ok
  with_service r = rw (more max_services service_within c.services r) (second_table sessions_ok services_ok dids_ok levels_ok (ltb (length c.services) max_services) (service_within r))

  pub with_did : (r : DidConfig) → within (add_did c r) ≡ ((within c && ltb (length c.dids) max_dids) && did_within r)
  unfolding within sessions_ok services_ok dids_ok levels_ok
  with_did r = rw (more max_dids did_within c.dids r) (third_table sessions_ok services_ok dids_ok levels_ok (ltb (length c.dids) max_dids) (did_within r))

  pub with_level : (r : SecurityLevelConfig) → within (add_level c r) ≡ ((within c && ltb (length c.levels) max_levels) && level_within r)
  unfolding within sessions_ok services_ok dids_ok levels_ok
  with_level r = rw (more max_levels level_within c.levels r) (fourth_table sessions_ok services_ok dids_ok levels_ok (ltb (length c.levels) max_levels) (level_within r))

-- so an image that has the row exactly where all three hold, and is the overfull one else, is what was asked for, settled
pub made : (v put : List ℕ) (c : Config) (a b : Bool) → within c ≡ (a && b) → v ≡ pick (a && b) put overfull_words → (a ≡ true → b ≡ true → v ≡ put → config_of v ≡ c) → config_of v ≡ settled c
made v put c true true d e k = k refl refl e ∙ rw d
made v put c true false d e k = ap config_of e ∙ rw d
made v put c false b d e k = ap config_of e ∙ rw d

-- one of two by three tests in turn
module _ {A : Type 0} (x y : A) (a b k : Bool) where
  pub no_config : a ≡ false → y ≡ pick ((a && b) && k) x y
  no_config e = rw e

  pub no_room : a ≡ true → b ≡ false → y ≡ pick ((a && b) && k) x y
  no_room e f = rw (e, f)

  pub no_row : a ≡ true → b ≡ true → k ≡ false → y ≡ pick ((a && b) && k) x y
  no_row e f g = rw (e, f, g)

  pub all_three : a ≡ true → b ≡ true → k ≡ true → x ≡ pick ((a && b) && k) x y
  all_three e f g = rw (e, f, g)

-- a row more lies in the image where the table does
pub room_for : (n most from step len : ℕ) → n < most → from + most * step ≤ 3006 → len ≤ step → from + n * step + len ≤ 3006
room_for n most from step len h p q =
    let m : (n + 1) * step ≤ most * step = mul-le-mul_right step (omega arith) in omega (arith, next_row n step)
