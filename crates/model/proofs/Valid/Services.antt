-- Every service's effect keeps the numbers.
use Prim.Native.Nat.{ℕ, ◌≤◌, ◌<◌, ◌+◌, ◌-◌, ◌%◌}
use mathlib.Core.Path.{◌≡◌, refl}
use mathlib.Core.Bool.{Bool, true, false, ◌&&◌}
use mathlib.Core.List.{List, ◌∷◌}
use mathlib.Core.Option.{Option, some, none}
use native.Mathlib.Omega.{arith}
use lib.ListN.{length}
use lib.Dec.{leb, ltb, eqb, lit<}
use borrow.Author.Tests.{ltb-true, lt-ltb, le-leb}
use Rattle.model.specs.Tests.{pick, without}
use Rattle.model.specs.Numbers.{Moment, Span, max_time, max_span, max_periodic, max_levels, max_seed}
use Rattle.model.specs.Config.{SessionConfig, ServiceConfig, SecurityLevelConfig, within, table_within, find_session, find_level, lockout_of, max_attempts_of}
use Rattle.model.specs.Values.{Outcome, bytes, error, outcome}
use Rattle.model.specs.Frame.{sub_function, periodic_did}
use Rattle.model.specs.State.{Security, Failed, Lock, Subscription, moment_valid, lock_valid, security_valid, subscription_valid, cleared}
use Rattle.model.specs.Queue.{Reply, positive, negative}
use Rattle.model.specs.Service.{Seen, Effect, Served, says, secures}
use Rattle.model.specs.Service3E.{service3E}
use Rattle.model.specs.Service10.{service10, session_control}
use Rattle.model.specs.Service11.{service11, reset}
use Rattle.model.specs.Service27.{service27, security_access, request_seed, seed_asked, seed_given, send_key, judged, denied, locked_out, locked, awaits, key_fits, is_failed, is_lock, raise, relock, increment_failed, set_lockout, failed_count, accepted, seeded}
use Rattle.model.specs.Service2A.{service2A, register, renewed, subscription, interval_for, rate_of, is_subscription}
use Rattle.model.specs.Service22.{service22}
use Rattle.model.specs.Service2E.{service2E}
use Rattle.model.specs.Service31.{service31}
use Rattle.model.specs.Service28.{service28}
use Rattle.model.specs.Service2F.{service2F}
use Rattle.model.specs.Service34.{service34}
use Rattle.model.specs.Service36.{service36}
use Rattle.model.specs.Service37.{service37}
use Rattle.model.specs.Service38.{service38}
use Rattle.model.specs.Request.{guarded}
use Rattle.model.proofs.Dispatch.{Each, at_guarded}
use Rattle.model.proofs.Laws.{both, left, right, either, IfSome, enter-length, enter-within, length-change_first, length_without, all_without, within-length, within_all, table-within}
use Rattle.model.proofs.Valid.Parts.{Subscribed, min_interval-below, lockout-below, later-valid}
use Rattle.model.proofs.Valid.Replies.{Fits}
use Rattle.model.proofs.Subscribing.{subscribing}
use Rattle.model.proofs.Untouched.{secure2A}
use Rattle.model.proofs.OnlyReplies.{Replies, only3E, only22, only2E, only31, only28, only2F, only34, only36, only37, only38}

-- what a service sees keeps the numbers
pub record Sound (v : Seen) : Type 0 where
  pub config : within v.config ≡ true
  pub last_rx : moment_valid v.session.last_rx ≡ true
  pub security : security_valid v.security ≡ true
  pub periodic : Subscribed v.periodic
  pub now : v.now ≤ max_time

-- a security record by its parts
pub record SecurityParts (k : Security) : Type 0 where
  pub seed : leb (length k.seed) max_seed ≡ true
  pub failed : leb (length k.failed) max_levels ≡ true
  pub locks : table_within max_levels lock_valid k.locks ≡ true

-- a valid one has them
security_parts : (k : Security) → security_valid k ≡ true → SecurityParts k
unfolding security_valid
security_parts k h = record { seed = left a b both-lengths; failed = right a b both-lengths; locks = right (a && b) c h }
  where
    a : Bool
    a = leb (length k.seed) max_seed

    b : Bool
    b = leb (length k.failed) max_levels

    c : Bool
    c = table_within max_levels lock_valid k.locks

    both-lengths : (a && b) ≡ true
    both-lengths = left (a && b) c h

-- one that has them is valid
parts_security : {k : Security} → SecurityParts k → security_valid k ≡ true
unfolding security_valid
parts_security h = both (both h.seed h.failed) h.locks

-- the seed cleared, with the counts and locks as they stand
pub cleared_parts : (k : Security) → security_valid k ≡ true → SecurityParts (cleared k)
cleared_parts k h = let p = security_parts k h in record { seed = refl; failed = p.failed; locks = p.locks }

-- so it stays valid
pub cleared-valid : (k : Security) → security_valid k ≡ true → security_valid (cleared k) ≡ true
cleared-valid k h = parts_security (cleared_parts k h)

-- the served effect fits
abbrev pub FitsServed : Served → Type 0
FitsServed a = Fits a.effect

-- what an act's outcome leads to fits, if it does for bytes and for an error
on_outcome : (f : Outcome → Effect) → ((b : List ℕ) → Fits (f (bytes b))) → ((c : ℕ) → Fits (f (error c))) → (o : Outcome) → Fits (f o)
on_outcome f p q (bytes b) = p b
on_outcome f p q (error c) = q c

module _ (v : Seen) (h : Sound v) where
  -- the parts of the security record that is seen
  k : SecurityParts v.security
  k = security_parts v.security h.security

  -- a reply alone
  pub says_fits : {r : Reply} → Fits (says v r)
  says_fits = record { last_rx = h.last_rx; security = h.security; periodic = h.periodic }

  -- so every service that only replies
  only_fits : (a : Served) → Replies v a → FitsServed a
  only_fits a e = rw e says_fits

  -- another security record
  secures_fits : {s : Security} {r : Reply} → SecurityParts s → Fits (secures v s r)
  secures_fits p = record { last_rx = h.last_rx; security = parts_security p; periodic = h.periodic }

  -- 10: the session opened, the seed cleared
  fits10 : FitsServed (service10 v)
  unfolding service10 session_control
  fits10 = either FitsServed (ltb (length v.payload) 1) says_fits (row (find_session v.config (sub_function v.payload)))
    where
      row : (o : Option SessionConfig) → FitsServed (session_control v (sub_function v.payload) o)
      row none = says_fits
      row (some r) = record { last_rx = h.last_rx; security = cleared-valid v.security h.security; periodic = h.periodic }

  -- 11: so too, once the reply is queued
  fits11 : FitsServed (service11 v)
  unfolding service11 reset
  fits11 =
      either FitsServed (ltb (length v.payload) 1) says_fits
      (on_outcome (reset v) (λ b. record { last_rx = h.last_rx; security = cleared-valid v.security h.security; periodic = h.periodic })
      (λ c. says_fits) (outcome v.limit v.given))

  -- 27, odd: a seed that is kept is shorter than 32
  seed_fits : (level : ℕ) (row : SecurityLevelConfig) (o : Outcome) → Fits (seed_given v level row o)
  unfolding seed_given
  seed_fits level row (error c) = says_fits
  seed_fits level row (bytes b) = either Fits (eqb (length b) row.seed_length) (go (ltb (length b) max_seed) refl) (secures_fits (cleared_parts v.security h.security))
    where
      go : (t : Bool) → ltb (length b) max_seed ≡ t → Fits (pick t (secures v (seeded v.security level b) (positive (level ∷ b))) (secures v (cleared v.security) (negative 0x14)))
      go true e = let short = ltb-true (length b) max_seed e in secures_fits (record { seed = le-leb (length b) max_seed (omega arith); failed = k.failed; locks = k.locks })
      go false e = secures_fits (cleared_parts v.security h.security)

  -- whether the level is locked, unknown or asked its seed
  seed_asked_fits : (level : ℕ) → FitsServed (request_seed v level)
  unfolding request_seed seed_asked
  seed_asked_fits level = either FitsServed (locked v.security level v.now) says_fits (row (find_level v.config level))
    where
      row : (o : Option SecurityLevelConfig) → FitsServed (seed_asked v level o)
      row none = says_fits
      row (some r) = seed_fits level r (outcome v.limit v.given)

  -- 27, even, accepted: a count is set to 0, so there are as many
  accepted_fits : (level : ℕ) → Fits (accepted v level)
  accepted_fits level = record {
    last_rx = h.last_rx;
    security = parts_security (record { seed = refl; failed = rw length-change_first k.failed; locks = k.locks });
    periodic = h.periodic;
  }

  -- refused at the most attempts: the locks keep their bound
  locked_out_fits : (f : List Failed) → leb (length f) max_levels ≡ true → (o : Option (List Lock)) → IfSome (λ l. table_within max_levels lock_valid l ≡ true) o → Fits (locked_out v f o)
  unfolding locked_out
  locked_out_fits f n none l = secures_fits (record { seed = refl; failed = n; locks = k.locks })
  locked_out_fits f n (some m) l = secures_fits (record { seed = refl; failed = n; locks = l })

  -- refused: the counts keep theirs, and a lock ends at now plus a span
  denied_fits : (level : ℕ) (o : Option (List Failed)) → IfSome (λ f. leb (length f) max_levels ≡ true) o → Fits (denied v level (find_level v.config level) o)
  unfolding denied
  denied_fits level none n = secures_fits (cleared_parts v.security h.security)
  denied_fits level (some f) n =
      either Fits (leb (max_attempts_of (find_level v.config level)) (failed_count level f))
      (locked_out_fits f n (set_lockout level until v.security.locks)
      (enter-within max_levels lock_valid (is_lock level) (relock until) (record { level = level; until = until }) v.security.locks (λ a e. good) good k.locks))
      (secures_fits (record { seed = refl; failed = n; locks = k.locks }))
    where
      until : Moment
      until = v.now + lockout_of (find_level v.config level)

      good : moment_valid until ≡ true
      good = later-valid v.now (lockout_of (find_level v.config level)) h.now (lockout-below v.config level h.config)

  -- a key sent, whatever comes of it
  send_key_fits : (level : ℕ) → FitsServed (send_key v level)
  unfolding send_key judged
  send_key_fits level =
      either FitsServed (locked v.security level v.now) says_fits
      (either FitsServed (awaits v.security level)
      (either FitsServed (key_fits (length v.payload - 1) (find_level v.config level))
      (on_outcome (judged v level) (λ b. accepted_fits level) (λ c. denied_fits level (increment_failed level v.security.failed) more) (outcome v.limit v.given))
      says_fits)
      says_fits)
    where
      more : IfSome (λ f. leb (length f) max_levels ≡ true) (increment_failed level v.security.failed)
      more = enter-length max_levels (is_failed level) raise (record { level = level; count = 1 }) v.security.failed k.failed

  -- 27 by its access type
  fits27 : FitsServed (service27 v)
  unfolding service27 security_access
  fits27 =
      either FitsServed (ltb (length v.payload) 1) says_fits
      (either FitsServed (eqb (sub_function v.payload) 0) says_fits
      (either FitsServed (eqb (sub_function v.payload % 2) 1) (seed_asked_fits (sub_function v.payload)) (send_key_fits (sub_function v.payload - 1))))

  -- the three rates, and the larger of rate and minimum, are below 2^32
  rate_below : (mode : ℕ) → rate_of mode < max_span
  rate_below mode = either (λ n. n < max_span) (eqb mode 1) (lit< tt) (either (λ n. n < max_span) (eqb mode 2) (lit< tt) (lit< tt))

  interval-below : (mode x : ℕ) → interval_for v (rate_of mode) x < max_span
  interval-below mode x = let a = rate_below mode in let b = min_interval-below v.config x h.config in omega arith

  -- one subscription entered: its next moment is now plus its interval
  register_fits : (mode b : ℕ) (t : List Subscription) → Subscribed t
      → IfSome Subscribed (register (periodic_did b) v.src (interval_for v (rate_of mode) (periodic_did b)) v.now t)
  register_fits mode b t e =
      enter-within max_periodic subscription_valid (is_subscription (periodic_did b) v.src) (renewed interval v.now) (subscription (periodic_did b) v.src interval v.now) t
      (λ a p. good) good e
    where
      interval : Span
      interval = interval_for v (rate_of mode) (periodic_did b)

      good : (ltb interval max_span && moment_valid (v.now + interval)) ≡ true
      good = both (lt-ltb interval max_span (interval-below mode (periodic_did b))) (later-valid v.now interval h.now (interval-below mode (periodic_did b)))

  -- one cancelled
  cancels_within : (b : ℕ) (t : List Subscription) → Subscribed t → Subscribed (without (is_subscription (periodic_did b) v.src) t)
  cancels_within b t e = table-within max_periodic subscription_valid (without mine t) fewer (all_without mine subscription_valid t (within_all max_periodic subscription_valid t e))
    where
      mine : Subscription → Bool
      mine = is_subscription (periodic_did b) v.src

      fewer : length (without mine t) ≤ max_periodic
      fewer = let a = length_without mine t in let b = within-length max_periodic subscription_valid t e in omega arith

  -- 2A, which changes no other record
  fits2A : FitsServed (service2A v)
  fits2A = record {
    last_rx = rw (secure2A v).0 h.last_rx;
    security = rw (secure2A v).1 h.security;
    periodic = subscribing Subscribed v h.periodic (record { enters = register_fits; cancels = cancels_within });
  }

  -- any of the fourteen, refusals included
  fits_each : Each (λ sid. FitsServed) v
  fits_each = record {
    at3E = only_fits (service3E v) (only3E v);
    at10 = fits10;
    at11 = fits11;
    at27 = fits27;
    at22 = only_fits (service22 v) (only22 v);
    at2E = only_fits (service2E v) (only2E v);
    at2A = fits2A;
    at31 = only_fits (service31 v) (only31 v);
    at28 = only_fits (service28 v) (only28 v);
    at2F = only_fits (service2F v) (only2F v);
    at34 = only_fits (service34 v) (only34 v);
    at36 = only_fits (service36 v) (only36 v);
    at37 = only_fits (service37 v) (only37 v);
    at38 = only_fits (service38 v) (only38 v);
    refused = λ sid code. says_fits;
  }

  -- what a frame's service answers
  pub guarded_fits : (sid : ℕ) (row : Option ServiceConfig) → FitsServed (guarded sid v row)
  guarded_fits = at_guarded (λ sid. FitsServed) v fits_each
