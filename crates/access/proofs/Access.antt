-- 27: one law for each way out, before the act's outcome is known and after it.
use Prim.Native.Nat.{ℕ, ◌-◌, ◌%◌, ◌≤◌, ◌<◌}
use mathlib.Core.Path.{◌≡◌, refl, ap, sym, ◌∙◌}
use mathlib.Core.Bool.{Bool, true, false, ◌&&◌, false≢true}
use mathlib.Core.List.{List, ◌∷◌}
use mathlib.Core.Option.{Option, some, none}
use native.Mathlib.Omega.{arith}
use lib.ListN.{length}
use lib.Dec.{eqb, leb}
use borrow.Author.Tests.{lt-ltb, le-ltb, le-leb, eq-eqb, ne_eqb, leb-true, eqb-true, eqb-false}
use Rattle.std.specs.Prelude.{Option as Maybe, Some, None, is_some, Ok, Err}
use Rattle.std.specs.Result.{is_ok, is_err}
use Rattle.model.specs.Numbers.{Moment, max_time, max_seed, max_levels}
use Rattle.model.specs.Config.{Config, SecurityLevelConfig, find_level, within}
use Rattle.model.specs.Frame.{sub_function}
use Rattle.model.specs.State.{Security, security_valid, lock_valid, cleared}
use Rattle.model.specs.Queue.{positive, negative}
use Rattle.model.specs.Service.{Seen, Effect, part, secures, refuses}
use Rattle.model.specs.Service27.{locked, awaits, key_fits, seed_given, seed_asked, request_seed, send_key, accepted, judged, denied, increment_failed, security_access, service27}
use Rattle.model.proofs.Laws.{left, right, within-length}
use Rattle.model.proofs.Valid.Services.{cleared_parts}
use Rattle.uds.specs.Table.{row_of}
use Rattle.config.specs.View.{seed_length_of}
use Rattle.security.specs.View.{security_of, listed, Clears, Seeds}
use Rattle.queue.specs.declared.reply.Reply.{Reply}
use Rattle.queue.specs.declared.reply.Reply.TheVariants.{Negative}
use Rattle.service.specs.declared.Part.{Part}
use Rattle.service.specs.Act.{part_of, Ask, asked_of, Asked, Handed, outcome_of}
use Rattle.service.specs.Seen.{secured, Replies}
use Rattle.service.specs.Effects.{Leaves}
use Rattle.service.proofs.Effects.{leaves, negates}
use Rattle.access.specs.Access.{ready27, access27, row_or, later_seed, later_key, outcome27, later27}

-- what is shown of a call that is ready
module _ (c : Config) (k : Security) (t : Moment) (h : ready27 c k t ≡ true) where
  pub ready-config : within c ≡ true
  ready-config = left (within c) (security_valid k) (left (within c && security_valid k) (leb t max_time) h)

  pub ready-security : security_valid k ≡ true
  ready-security = right (within c) (security_valid k) (left (within c && security_valid k) (leb t max_time) h)

  pub ready-time : t ≤ max_time
  ready-time = leb-true t max_time (right (within c && security_valid k) (leb t max_time) h)

-- the lists of a valid record are lists
pub few-failed : (k : Security) → security_valid k ≡ true → leb (length k.failed) max_levels ≡ true
few-failed k h = (cleared_parts k h).failed

pub few-locks : (k : Security) → security_valid k ≡ true → leb (length k.locks) max_levels ≡ true
few-locks k h = le-leb (length k.locks) max_levels (within-length max_levels lock_valid k.locks (cleared_parts k h).locks)

-- the length of a seed that is configured
row-length : {row o : Option SecurityLevelConfig} {n : ℕ} → row ≡ o → n ≡ seed_length_of row → n ≡ (row_or o).seed_length
row-length {o = o} f l = l ∙ ap seed_length_of f ∙ go o
  where
    go : (o : Option SecurityLevelConfig) → seed_length_of o ≡ (row_or o).seed_length
    go none = refl
    go (some row) = refl

-- a reply that is no more than a code
pub left-with : (v : Seen) {k room : List ℕ} {frames code : ℕ} {should : Effect} → should ≡ secures v (security_of k) (negative code) → Leaves should v v.session.level frames room (Negative code) k room
left-with v {k} {room} {frames} {code} {should} e = leaves v frames room k v.session.level should (negative code) (Negative code) room e (negates v frames room code)

module _ (v : Seen) where
  pub refused-access : ready27 v.config v.security v.now ≡ false → access27 v ≡ refuses v 0x22
  unfolding access27
  refused-access h = rw h

  ready-access : ready27 v.config v.security v.now ≡ true → access27 v ≡ service27 v
  unfolding access27
  ready-access h = rw h

  -- what is asked of a call that is ready
  pub asks-access : {r : Ask} → ready27 v.config v.security v.now ≡ true → Asked service27 later27 v r → Asked access27 later27 v r
  asks-access h a = record { asked = ready-access h ∙ a.asked }

  -- absent, 0, odd or even
  module _ {empty : Bool} (e : empty ≡ eqb (length v.payload) 0) where
    pub short27 : empty ≡ true → Asked service27 later27 v (Err 0x13)
    unfolding service27
    short27 z = record { asked = rw (lt-ltb (length v.payload) 1 (omega (arith, eqb-true (length v.payload) 0 (sym e ∙ z)))) }

    module _ (z : empty ≡ false) {x : ℕ} (s : x ≡ sub_function v.payload) where
      known : service27 v ≡ security_access v x
      unfolding service27
      known = rw (le-ltb (length v.payload) 1 (omega (arith, eqb-false (length v.payload) 0 (sym e ∙ z))), s)

      pub reserved27 : x ≡ 0 → Asked service27 later27 v (Err 0x12)
      unfolding security_access
      reserved27 y = record { asked = known ∙ rw (eq-eqb x 0 y) }

      odd_later : x % 2 ≡ 1 → later_seed x v ≡ later27 v
      odd_later y = rw (← s, eq-eqb (x % 2) 1 y)

      even_later : (x % 2 ≡ 1 → ⊥) → later_key (x - 1) v ≡ later27 v
      even_later y = rw (← s, ne_eqb (x % 2) 1 y)

      module _ (n : x ≡ 0 → ⊥) {r : Ask} where
        pub odd27 : x % 2 ≡ 1 → Asked (λ u. request_seed u x) (later_seed x) v r → Asked service27 later27 v r
        unfolding security_access
        odd27 y a = record { asked = known ∙ rw (ne_eqb x 0 n, eq-eqb (x % 2) 1 y) a.asked ∙ ap (asked_of r v) (odd_later y) }

        pub even27 : (x % 2 ≡ 1 → ⊥) → Asked (λ u. send_key u (x - 1)) (later_key (x - 1)) v r → Asked service27 later27 v r
        unfolding security_access
        even27 y a = record { asked = known ∙ rw (ne_eqb x 0 n, ne_eqb (x % 2) 1 y) a.asked ∙ ap (asked_of r v) (even_later y) }

  -- a level's lock
  module _ (h : ready27 v.config v.security v.now ≡ true) (level : ℕ) {b : Bool} (e : b ≡ listed v.security.locks (locked v.security level v.now) false) where
    its-lock : locked v.security level v.now ≡ b
    its-lock = sym (e ∙ rw (few-locks v.security (ready-security v.config v.security v.now h)))

    pub seed-locked : b ≡ true → Asked (λ u. request_seed u level) (later_seed level) v (Err 0x37)
    unfolding request_seed
    seed-locked z = record { asked = rw (its-lock, z) }

    pub key-locked : b ≡ true → Asked (λ u. send_key u level) (later_key level) v (Err 0x37)
    unfolding send_key
    key-locked z = record { asked = rw (its-lock, z) }

    -- a seed asked
    asked : b ≡ false → (o : Option SecurityLevelConfig) → o ≡ find_level v.config level → request_seed v level ≡ seed_asked v level o
    unfolding request_seed
    asked z o f = rw (its-lock, z, f)

    pub seed_unknown : b ≡ false → (row : ℕ → SecurityLevelConfig) (i : Maybe ℕ) → row_of row i ≡ find_level v.config level → is_some i ≡ false → Asked (λ u. request_seed u level) (later_seed level) v (Err 0x12)
    unfolding seed_asked
    seed_unknown z row None f n = record { asked = asked z none f }
    seed_unknown z row (Some i) f n = absurd (false≢true (sym n))

    pub asks-seed : b ≡ false → (row : ℕ → SecurityLevelConfig) (i : Maybe ℕ) → row_of row i ≡ find_level v.config level → is_some i ≡ true → {p q s : Part} → part_of p ≡ part 1 1
        → Asked (λ u. request_seed u level) (later_seed level) v (Ok (record { a = p; b = q; c = s; number = 0x27; parts = 1 }))
    unfolding seed_asked
    asks-seed z row None f n w = absurd (false≢true n)
    asks-seed z row (Some i) f n w = record { asked = asked z (some (row i)) f ∙ rw (← f, w) }

    -- a key sent
    module _ (z : b ≡ false) {d : Bool} (w : d ≡ awaits v.security level) where
      pub key-early : d ≡ false → Asked (λ u. send_key u level) (later_key level) v (Err 0x24)
      unfolding send_key
      key-early y = record { asked = rw (its-lock, z, ← w, y) }

      module _ (y : d ≡ true) {g : Bool} (u : g ≡ key_fits (length v.payload - 1) (find_level v.config level)) where
        pub key_misfit : g ≡ false → Asked (λ u. send_key u level) (later_key level) v (Err 0x13)
        unfolding send_key
        key_misfit x = record { asked = rw (its-lock, z, ← w, y, ← u, x) }

        pub asks-key : g ≡ true → {p q s : Part} → part_of p ≡ part 1 1 → part_of q ≡ part 2 (length v.payload - 1)
            → Asked (λ u. send_key u level) (later_key level) v (Ok (record { a = p; b = q; c = s; number = 0x27; parts = 2 }))
        unfolding send_key
        asks-key x i j = record { asked = rw (its-lock, z, ← w, y, ← u, x, i, j) }

  -- a seed that is handed in, and what is left of the words
  module _ {k : List ℕ} (level frames : ℕ) (room b : List ℕ) where
    left-clear : {k' : List ℕ} {should : Effect} {code : ℕ} → should ≡ secures v (cleared (security_of k)) (negative code) → Clears k k' → Leaves should v v.session.level frames room (Negative code) k' room
    left-clear {code = code} e c = left-with v (e ∙ ap (λ (s : Security). secures v s (negative code)) (sym c.state))

    pub no_seed : (o : Handed) → is_err o ≡ true → (row : SecurityLevelConfig) → Leaves (seed_given (secured k v) level row (outcome_of o b)) v v.session.level frames room (Negative 0x22) k room
    unfolding seed_given
    no_seed (Err code) e row = left-with v refl
    no_seed (Ok done) e row = absurd (false≢true e)

    module _ (config : Config) {row : Option SecurityLevelConfig} (f : row ≡ find_level config level) {n : ℕ} (l : n ≡ seed_length_of row) where
      pub other_length : (o : Handed) → is_err o ≡ false → (length b ≡ n → ⊥) → {k' : List ℕ} → Clears k k' → Leaves (seed_given (secured k v) level (row_or (find_level config level)) (outcome_of o b)) v v.session.level frames room (Negative 0x22) k' room
      unfolding seed_given
      other_length (Ok done) e d c = left-clear (rw (ne_eqb (length b) (row_or (find_level config level)).seed_length (λ z. d (z ∙ sym (row-length f l))))) c
      other_length (Err code) e d c = absurd (false≢true (sym e))

      module _ (g : length b ≡ n) where
        pub full-length : (o : Handed) → is_err o ≡ false → 32 ≤ length b → {k' : List ℕ} → Clears k k' → Leaves (seed_given (secured k v) level (row_or (find_level config level)) (outcome_of o b)) v v.session.level frames room (Negative 0x14) k' room
        unfolding seed_given
        full-length (Ok done) e h c = left-clear (rw (eq-eqb (length b) (row_or (find_level config level)).seed_length (g ∙ row-length f l), le-ltb (length b) 32 h)) c
        full-length (Err code) e h c = absurd (false≢true (sym e))

        pub given-seed : (o : Handed) → is_err o ≡ false → length b < 32 → {k' room' : List ℕ} {r : Reply} → Seeds k level b k' → Replies (positive (level ∷ b)) frames room r room'
            → Leaves (seed_given (secured k v) level (row_or (find_level config level)) (outcome_of o b)) v v.session.level frames room r k' room'
        unfolding seed_given
        given-seed (Ok done) e h s p = leaves v frames room _ v.session.level _ (positive (level ∷ b)) _ _
            (rw (eq-eqb (length b) (row_or (find_level config level)).seed_length (g ∙ row-length f l), lt-ltb (length b) 32 h) (ap (λ (t : Security). secures v t (positive (level ∷ b))) (sym (s.state ∙ rw (le-leb (length b) max_seed (omega arith))))))
            p
        given-seed (Err code) e h s p = absurd (false≢true (sym e))

  -- the outcome of an act, by the access type
  module _ (x : ℕ) (b : List ℕ) where
    pub gives : (o : Handed) → x % 2 ≡ 1 → outcome27 v x (outcome_of o b) ≡ seed_given v x (row_or (find_level v.config x)) (outcome_of o b)
    gives o z = rw (eq-eqb (x % 2) 1 z)

    module _ (z : x % 2 ≡ 1 → ⊥) {level : ℕ} (l : level ≡ x - 1) where
      pub accepts : (o : Handed) → is_ok o ≡ true → outcome27 v x (outcome_of o b) ≡ accepted v level
      unfolding judged
      accepts (Ok done) e = rw (ne_eqb (x % 2) 1 z, l)
      accepts (Err code) e = absurd (false≢true e)

      pub denies : (o : Handed) → is_ok o ≡ false → outcome27 v x (outcome_of o b) ≡ denied v level (find_level v.config level) (increment_failed level v.security.failed)
      unfolding judged
      denies (Ok done) e = absurd (false≢true (sym e))
      denies (Err code) e = rw (ne_eqb (x % 2) 1 z, l)
