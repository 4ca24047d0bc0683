-- 27: what is left of the counts and the locks where a key was judged.
use Prim.Native.Nat.{ℕ, ◌+◌, ◌≤◌, ◌<◌}
use mathlib.Core.Path.{◌≡◌, refl, ap, sym, subst, ◌∙◌}
use mathlib.Core.Bool.{Bool, true, false}
use mathlib.Core.List.{List, [], ◌∷◌}
use mathlib.Core.Option.{Option, some, none, map, none-ne-some, some-ne-none}
use native.Mathlib.Omega.{arith}
use lib.ListN.{length}
use lib.Dec.{leb}
use borrow.Author.Tests.{le-leb, lt-leb}
use Rattle.model.specs.Tests.{change_first}
use Rattle.model.specs.Numbers.{Moment, Span, max_levels}
use Rattle.model.specs.Config.{SecurityLevelConfig, find_level, max_attempts_of, lockout_of}
use Rattle.model.specs.State.{Failed, Lock, Security, security_valid, unlocked, cleared, with_failed, with_locks}
use Rattle.model.specs.Queue.{positive, negative}
use Rattle.model.specs.Service.{Seen, secures}
use Rattle.model.specs.Service27.{is_failed, raise, forget, accepted, failed_count, increment_failed, set_lockout, locked_out, denied}
use Rattle.model.proofs.Laws.{IfSome, enter-length}
use Rattle.model.proofs.Valid.Parts.{lockout-below}
use Rattle.uds.specs.Clock.{later}
use Rattle.config.specs.View.{config_of}
use Rattle.security.specs.View.{security_of, listed, counted, locked_until, forgotten, entered_of, Enters, Clears, Resets}
use Rattle.queue.specs.declared.reply.Reply.{Reply}
use Rattle.service.specs.Seen.{received_at, secured, Replies}
use Rattle.service.specs.Effects.{Leaves}
use Rattle.service.proofs.Effects.{leaves}
use Rattle.access.specs.Access.{ready27}
use Rattle.access.proofs.Access.{ready-config, ready-security, ready-time, few-failed, few-locks}

-- what was entered, where there was room for it, and what was not
module _ {A : Type 0} (with : List A → Security) (part : Security → List A) (own : (l : List A) → part (with l) ≡ l) where
  no_room : (x : Option (List A)) → none ≡ map with x → x ≡ none
  no_room none e = refl
  no_room (some l) e = absurd (none-ne-some (with l) e)

  room_for : (x : Option (List A)) (s : Security) → some s ≡ map with x → (x ≡ some (part s)) × (s ≡ with (part s))
  room_for none s e = absurd (some-ne-none s e)
  room_for (some l) s e = let z : s ≡ with l = cc in let y : part s ≡ l = ap part z ∙ own l in (ap some (sym y), z ∙ ap with (sym y))

-- a key accepted
pub accepts-key : {k k1 k2 room room' : List ℕ} {level frames : ℕ} {r : Reply} → security_valid (security_of k) ≡ true → Resets k level k1 → Clears k1 k2 → Replies (positive ((level + 1) ∷ [])) frames room r room'
    → (v : Seen) → Leaves (accepted (secured k v) level) v level frames room r k2 room'
accepts-key {k} {level = level} {frames = frames} h r c p v = leaves v frames _ _ level _ (positive ((level + 1) ∷ [])) _ _
    (ap (λ (s : Security). record { session = unlocked v.session level; security = s; periodic = v.periodic; reply = positive ((level + 1) ∷ []); waits = false }) (sym (c.state ∙ ap cleared (r.state ∙ a_list))))
    p
  where
    a_list : forgotten (security_of k) level ≡ with_failed (security_of k) (change_first (is_failed level) forget (security_of k).failed)
    a_list = rw (few-failed (security_of k) h)

-- what is said of it
module _ (v : Seen) (level : ℕ) (row : Option SecurityLevelConfig) where
  denied-full : (o : Option (List Failed)) (k' : Security) → o ≡ none → k' ≡ cleared v.security → denied v level row o ≡ secures v k' (negative 0x22)
  unfolding denied
  denied-full o k' z e = rw (z, e)

  module _ (o : Option (List Failed)) (f : List Failed) (z : o ≡ some f) (n : ℕ) (c : n ≡ failed_count level f) (k' : Security) where
    denied-key : n < max_attempts_of row → k' ≡ with_failed (cleared v.security) f → denied v level row o ≡ secures v k' (negative 0x35)
    unfolding denied
    denied-key h e = rw (z, lt-leb (max_attempts_of row) (failed_count level f) (omega arith), e)

    module _ (h : max_attempts_of row ≤ n) (end : Moment) (s : end ≡ v.now + lockout_of row) where
      at_last : denied v level row o ≡ locked_out v f (set_lockout level end v.security.locks)
      unfolding denied
      at_last = rw (z, le-leb (max_attempts_of row) (failed_count level f) (omega arith), s)

      denied-unlocked : set_lockout level end v.security.locks ≡ none → k' ≡ with_failed (cleared v.security) f → denied v level row o ≡ secures v k' (negative 0x22)
      unfolding locked_out
      denied-unlocked y e = at_last ∙ rw (y, e)

      denied-locked : (l : List Lock) → set_lockout level end v.security.locks ≡ some l → k' ≡ with_locks (with_failed (cleared v.security) f) l → denied v level row o ≡ secures v k' (negative 0x36)
      unfolding locked_out
      denied-locked l y e = at_last ∙ rw (y, e)

-- what is answered to a refused key, and which words are left, whatever else is seen
abbrev Denies : List ℕ → ℕ → Moment → List ℕ → List ℕ → ℕ → Type 0
Denies config level t k k' code = (v : Seen) → denied (secured k (received_at t v)) level (find_level (config_of config) level) (increment_failed level (security_of k).failed) ≡ secures v (security_of k') (negative code)

-- a key refused: the seed cleared, then one more counted
module _ (w : List ℕ) {k k1 k2 : List ℕ} (level : ℕ) (t : Moment) (h : ready27 (config_of w) (security_of k) t ≡ true) (c : Clears k k1) {r : Bool} (e : Enters k1 (counted (security_of k1) level) r k2) where
  valid : security_valid (security_of k) ≡ true
  valid = ready-security (config_of w) (security_of k) t h

  entered : entered_of r k2 ≡ map (with_failed (cleared (security_of k))) (increment_failed level (security_of k).failed)
  entered = e.answer ∙ ap (λ (s : Security). counted s level) c.state ∙ rw (few-failed (security_of k) valid)

  pub uncounted : r ≡ false → Denies w level t k k2 0x22
  uncounted z v =
      denied-full (secured k (received_at t v)) level (find_level (config_of w) level) _ _ (no_room (with_failed (cleared (security_of k))) (λ (s : Security). s.failed) (λ l. refl) (increment_failed level (security_of k).failed) (rw z at entered))
      (ap security_of (e.full z) ∙ c.state)

  module _ (z : r ≡ true) where
    both : (increment_failed level (security_of k).failed ≡ some (security_of k2).failed) × (security_of k2 ≡ with_failed (cleared (security_of k)) (security_of k2).failed)
    both = room_for (with_failed (cleared (security_of k))) (λ (s : Security). s.failed) (λ l. refl) (increment_failed level (security_of k).failed) (security_of k2) (rw z at entered)

    -- the list of counts is one still
    few : leb (length (security_of k2).failed) max_levels ≡ true
    few = subst (λ (o : Option (List Failed)). IfSome (λ m. leb (length m) max_levels ≡ true) o) both.0 (enter-length max_levels (is_failed level) raise (record { level = level; count = 1 }) (security_of k).failed (few-failed (security_of k) valid))

    same-locks : (security_of k2).locks ≡ (security_of k).locks
    same-locks = ap (λ (s : Security). s.locks) both.1

    module _ {n : ℕ} (y : n ≡ listed (security_of k2).failed (failed_count level (security_of k2).failed) 0) {row : Option SecurityLevelConfig} (f : row ≡ find_level (config_of w) level) {most : ℕ} (m : most ≡ max_attempts_of row) where
      its-count : n ≡ failed_count level (security_of k2).failed
      its-count = y ∙ rw few

      its-most : most ≡ max_attempts_of (find_level (config_of w) level)
      its-most = m ∙ ap max_attempts_of f

      pub wrong-key : n < most → Denies w level t k k2 0x35
      wrong-key q v = denied-key (secured k (received_at t v)) level (find_level (config_of w) level) _ _ both.0 n its-count _ (omega (arith, its-most)) both.1

      -- and then the level locked
      module _ (q : most ≤ n) {d : Span} (l : d ≡ lockout_of row) {end : Moment} (s : end ≡ later t d) {k3 : List ℕ} {r' : Bool} (e' : Enters k2 (locked_until (security_of k2) level end) r' k3) where
        -- the end is the sum: neither a time of a call nor a configured span reaches the clock's end
        the_sum : end ≡ t + lockout_of (find_level (config_of w) level)
        the_sum = let below = lockout-below (config_of w) level (ready-config (config_of w) (security_of k) t h) in let early = ready-time (config_of w) (security_of k) t h in let long : d ≡ lockout_of (find_level (config_of w) level) = l ∙ ap lockout_of f in omega arith

        entered' : entered_of r' k3 ≡ map (with_locks (security_of k2)) (set_lockout level end (security_of k2).locks)
        entered' = e'.answer ∙ rw (ap (λ (l : List Lock). leb (length l) max_levels) same-locks ∙ few-locks (security_of k) valid)

        pub unlockable : r' ≡ false → Denies w level t k k3 0x22
        unlockable x v =
            denied-unlocked (secured k (received_at t v)) level (find_level (config_of w) level) _ _ both.0 n its-count _ (omega (arith, its-most)) end the_sum
            (ap (set_lockout level end) (sym same-locks) ∙ no_room (with_locks (security_of k2)) (λ (s : Security). s.locks) (λ l. refl) (set_lockout level end (security_of k2).locks) (rw x at entered'))
            (ap security_of (e'.full x) ∙ both.1)

        pub locks : r' ≡ true → Denies w level t k k3 0x36
        locks x v =
            let b = room_for (with_locks (security_of k2)) (λ (s : Security). s.locks) (λ l. refl) (set_lockout level end (security_of k2).locks) (security_of k3) (rw x at entered') in
            denied-locked (secured k (received_at t v)) level (find_level (config_of w) level) _ _ both.0 n its-count _ (omega (arith, its-most)) end the_sum _ (ap (set_lockout level end) (sym same-locks) ∙ b.0) (b.1 ∙ ap (λ (s : Security). with_locks s (security_of k3).locks) both.1)
