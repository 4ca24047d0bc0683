-- What a service leaves untouched, whatever it answers: when the last request came; the subscriptions, unless it is 2A; the counts and locks, unless it is 27.
-- And none but 11 lets its change wait for its reply.
use Prim.Native.Nat.{ℕ, ◌+◌, ◌-◌, ◌%◌}
use mathlib.Core.Path.{◌≡◌, refl}
use mathlib.Core.Bool.{false, ◌&&◌}
use mathlib.Core.Logic.{◌⊎◌, inl, inr}
use mathlib.Core.List.{List, [], ◌∷◌}
use mathlib.Core.Option.{Option, some, none}
use lib.ListN.{length, drop, get_or}
use lib.Dec.{eqb, leb, ltb}
use Rattle.model.specs.Numbers.{max_seed}
use Rattle.model.specs.Config.{SessionConfig, SecurityLevelConfig, find_session, find_level, find_did, readable, max_attempts_of, lockout_of}
use Rattle.model.specs.Values.{Outcome, bytes, error, outcome}
use Rattle.model.specs.Frame.{sub_function, periodic_did}
use Rattle.model.specs.State.{Security, Subscription, Failed, Lock}
use Rattle.model.specs.Service.{Seen, Effect, Served, refuses}
use Rattle.model.specs.Service3E.{service3E}
use Rattle.model.specs.Service10.{session_control, service10}
use Rattle.model.specs.Service11.{reset, service11}
use Rattle.model.specs.Service27.{locked, awaits, key_fits, failed_count, increment_failed, set_lockout, seed_given, seed_asked, request_seed, locked_out, denied, judged, send_key, security_access, service27}
use Rattle.model.specs.Service22.{service22}
use Rattle.model.specs.Service2E.{service2E}
use Rattle.model.specs.Service2A.{rate_of, register, interval_for, registered, register_all, transmission, service2A}
use Rattle.model.specs.Service31.{service31}
use Rattle.model.specs.Service28.{service28}
use Rattle.model.specs.Service2F.{service2F}
use Rattle.model.specs.Service34.{service34}
use Rattle.model.specs.Service36.{service36}
use Rattle.model.specs.Service37.{service37}
use Rattle.model.specs.Service38.{service38}
use Rattle.model.proofs.Dispatch.{Each}
use Rattle.model.proofs.Laws.{either}
use Rattle.model.proofs.OnlyReplies.{Replies, only3E, only22, only2E, only31, only28, only2F, only34, only36, only37, only38}

-- the counts of refused keys and the locks of one security record are those of another
pub record SameCounts (k l : Security) : Type 0 where
  pub failed : l.failed ≡ k.failed
  pub locks : l.locks ≡ k.locks

-- what the service with a number leaves; or it is the one service that may change it
pub record Left (v : Seen) (sid : ℕ) (a : Served) : Type 0 where
  pub last_rx : a.effect.session.last_rx ≡ v.session.last_rx
  pub periodic : (a.effect.periodic ≡ v.periodic) ⊎ ((sid ≡ 0x2A) × (a ≡ service2A v))
  pub counts : SameCounts v.security a.effect.security ⊎ ((sid ≡ 0x27) × (a ≡ service27 v))
  pub waits : (a.effect.waits ≡ false) ⊎ (sid ≡ 0x11)

module _ (v : Seen) where
  -- an effect that leaves all of it
  abbrev Whole : Effect → Type 0
  Whole e = (e.session.last_rx ≡ v.session.last_rx) × (e.periodic ≡ v.periodic) × (e.security.failed ≡ v.security.failed) × (e.security.locks ≡ v.security.locks)

  -- of the service with a number
  abbrev WholeServed : ℕ → Served → Type 0
  WholeServed sid a = Whole a.effect × ((a.effect.waits ≡ false) ⊎ (sid ≡ 0x11))

  left_whole : (sid : ℕ) (a : Served) → WholeServed sid a → Left v sid a
  left_whole sid a h = record { last_rx = h.0.0; periodic = inl h.0.1; counts = inl (record { failed = h.0.2; locks = h.0.3 }); waits = h.1 }

  -- so does a service that only replies
  only : (sid : ℕ) (a : Served) → Replies v a → Left v sid a
  only sid a e = left_whole sid a (rw e ((refl, refl, refl, refl), inl refl))

  -- 10 and 11
  whole10 : WholeServed 0x10 (service10 v)
  unfolding service10 session_control
  whole10 = either (WholeServed 0x10) (ltb (length v.payload) 1) ((refl, refl, refl, refl), inl refl) (row (find_session v.config (sub_function v.payload)))
    where
      row : (o : Option SessionConfig) → WholeServed 0x10 (session_control v (sub_function v.payload) o)
      row none = ((refl, refl, refl, refl), inl refl)
      row (some r) = ((refl, refl, refl, refl), inl refl)

  whole11 : WholeServed 0x11 (service11 v)
  unfolding service11 reset
  whole11 = (either (λ (a : Served). Whole a.effect) (ltb (length v.payload) 1) (refl, refl, refl, refl) (go (outcome v.limit v.given)), inr refl)
    where
      go : (o : Outcome) → Whole (reset v o)
      go (bytes b) = (refl, refl, refl, refl)
      go (error code) = (refl, refl, refl, refl)

  -- 27: an effect that leaves the time and the subscriptions, and does not wait
  abbrev Timed : Effect → Type 0
  Timed e = (e.session.last_rx ≡ v.session.last_rx) × (e.periodic ≡ v.periodic) × (e.waits ≡ false)

  abbrev TimedServed : Served → Type 0
  TimedServed a = Timed a.effect

  -- a key refused
  timed_denied : (level : ℕ) (row : Option SecurityLevelConfig) (o : Option (List Failed)) → Timed (denied v level row o)
  unfolding denied locked_out
  timed_denied level row none = (refl, refl, refl)
  timed_denied level row (some f) = either Timed (leb (max_attempts_of row) (failed_count level f)) (go (set_lockout level (v.now + lockout_of row) v.security.locks)) (refl, refl, refl)
    where
      go : (o : Option (List Lock)) → Timed (locked_out v f o)
      go none = (refl, refl, refl)
      go (some l) = (refl, refl, refl)

  -- a key accepted or refused
  timed_judged : (level : ℕ) (o : Outcome) → Timed (judged v level o)
  unfolding judged
  timed_judged level (bytes b) = (refl, refl, refl)
  timed_judged level (error code) = timed_denied level (find_level v.config level) (increment_failed level v.security.failed)

  -- a seed given
  timed_seed : (level : ℕ) (row : SecurityLevelConfig) (o : Outcome) → Timed (seed_given v level row o)
  unfolding seed_given
  timed_seed level row (bytes b) = either Timed (eqb (length b) row.seed_length) (either Timed (ltb (length b) max_seed) (refl, refl, refl) (refl, refl, refl)) (refl, refl, refl)
  timed_seed level row (error code) = (refl, refl, refl)

  -- a seed asked, and a key sent
  timed_request_seed : (level : ℕ) → TimedServed (request_seed v level)
  unfolding request_seed seed_asked
  timed_request_seed level = either TimedServed (locked v.security level v.now) (refl, refl, refl) (row (find_level v.config level))
    where
      row : (o : Option SecurityLevelConfig) → TimedServed (seed_asked v level o)
      row none = (refl, refl, refl)
      row (some r) = timed_seed level r (outcome v.limit v.given)

  timed_send_key : (level : ℕ) → TimedServed (send_key v level)
  unfolding send_key
  timed_send_key level =
      either TimedServed (locked v.security level v.now) (refl, refl, refl)
      (either TimedServed (awaits v.security level)
      (either TimedServed (key_fits (length v.payload - 1) (find_level v.config level)) (timed_judged level (outcome v.limit v.given)) (refl, refl, refl)) (refl, refl, refl))

  -- 27 by its access type
  timed27 : TimedServed (service27 v)
  unfolding service27 security_access
  timed27 =
      let access = sub_function v.payload in
      either TimedServed (ltb (length v.payload) 1) (refl, refl, refl)
      (either TimedServed (eqb access 0) (refl, refl, refl) (either TimedServed (eqb (access % 2) 1) (timed_request_seed access) (timed_send_key (access - 1))))

  -- 2A: an effect that leaves the time and the security record, and does not wait
  abbrev pub Secure : Effect → Type 0
  Secure e = (e.session.last_rx ≡ v.session.last_rx) × (e.security ≡ v.security) × (e.waits ≡ false)

  abbrev pub SecureServed : Served → Type 0
  SecureServed a = Secure a.effect

  -- the listed ones in turn, up to a refusal
  secure_register : (mode : ℕ) (ids : List ℕ) (t : List Subscription) → Secure (register_all v mode ids t)
  secure_register mode [] t = (refl, refl, refl)
  secure_register mode (b ∷ ids) t =
      either Secure (readable v.session.session_type (find_did v.config (periodic_did b)))
      (go (register (periodic_did b) v.src (interval_for v (rate_of mode) (periodic_did b)) v.now t) (secure_register mode ids)) (refl, refl, refl)
    where
      go : (o : Option (List Subscription)) → ((u : List Subscription) → Secure (register_all v mode ids u)) → Secure (registered v t o (register_all v mode ids))
      go none ih = (refl, refl, refl)
      go (some u) ih = ih u

  -- 2A by its mode
  pub secure2A : SecureServed (service2A v)
  unfolding service2A transmission
  secure2A =
      let mode = get_or v.payload 0 0 in
      either SecureServed (ltb (length v.payload) 1) (refl, refl, refl)
      (either SecureServed (eqb mode 4) (refl, refl, refl) (either SecureServed (leb 1 mode && leb mode 3) (secure_register mode (drop 1 v.payload) v.periodic) (refl, refl, refl)))

  -- each of the fourteen, and every refusal
  pub untouched : Each (Left v) v
  untouched = record {
    at3E = only 0x3E (service3E v) (only3E v);
    at10 = left_whole 0x10 (service10 v) whole10;
    at11 = left_whole 0x11 (service11 v) whole11;
    at27 = record { last_rx = timed27.0; periodic = inl timed27.1; counts = inr (refl, refl); waits = inl timed27.2 };
    at22 = only 0x22 (service22 v) (only22 v);
    at2E = only 0x2E (service2E v) (only2E v);
    at2A = record { last_rx = secure2A.0; periodic = inr (refl, refl); counts = inl (rw secure2A.1 (record { failed = refl; locks = refl })); waits = inl secure2A.2 };
    at31 = only 0x31 (service31 v) (only31 v);
    at28 = only 0x28 (service28 v) (only28 v);
    at2F = only 0x2F (service2F v) (only2F v);
    at34 = only 0x34 (service34 v) (only34 v);
    at36 = only 0x36 (service36 v) (only36 v);
    at37 = only 0x37 (service37 v) (only37 v);
    at38 = only 0x38 (service38 v) (only38 v);
    refused = λ sid code. left_whole sid (refuses v code) ((refl, refl, refl, refl), inl refl);
  }
