-- Every service but 22 is blind to the value table, and 27 to all of the key but its length.
use Prim.Native.Nat.{ℕ, ◌+◌, ◌-◌}
use mathlib.Core.Path.{◌≡◌, refl}
use mathlib.Core.List.{List, [], ◌∷◌}
use mathlib.Core.Option.{Option, some, none}
use lib.ListN.{length, drop, get_or}
use Rattle.model.specs.Numbers.{max_download}
use Rattle.model.specs.Config.{SessionConfig, SecurityLevelConfig, find_session, find_level, lockout_of}
use Rattle.model.specs.Values.{Outcome, bytes, error, Given, Table, outcome}
use Rattle.model.specs.Frame.{sub_function, periodic_did}
use Rattle.model.specs.State.{Subscription, Failed, Lock}
use Rattle.model.specs.Queue.{Reply, positive}
use Rattle.model.specs.Service.{Seen, acted}
use Rattle.model.specs.Service3E.{service3E}
use Rattle.model.specs.Service10.{session_control, service10}
use Rattle.model.specs.Service11.{reset, service11}
use Rattle.model.specs.Service27.{increment_failed, set_lockout, seed_given, seed_asked, request_seed, locked_out, denied, judged, send_key, security_access, service27}
use Rattle.model.specs.Service2E.{written, write_row, service2E}
use Rattle.model.specs.Service2A.{rate_of, register, interval_for, registered, register_all, transmission, service2A}
use Rattle.model.specs.Service31.{routine, service31}
use Rattle.model.specs.Service28.{communication, service28}
use Rattle.model.specs.Service2F.{controlled, service2F}
use Rattle.model.specs.Service34.{service34}
use Rattle.model.specs.Service36.{transferred, service36}
use Rattle.model.specs.Service37.{service37}
use Rattle.model.specs.Service38.{service38}

-- the same sight with another payload, outcome and table
abbrev pub sighted : Seen → List ℕ → Given → Table → Seen
sighted v p g t = record {
  limit = v.limit;
  config = v.config;
  session = v.session;
  security = v.security;
  periodic = v.periodic;
  now = v.now;
  src = v.src;
  payload = p;
  given = g;
  table = t;
}

-- the outcome being the same
abbrev pub seeing : Seen → List ℕ → Table → Seen
seeing v p t = sighted v p v.given t

-- 27: neither the payload nor the table is seen once level and key length are known
module _ (v : Seen) (p q : List ℕ) (t u : Table) where
  blind_locked_out : (f : List Failed) (o : Option (List Lock)) → locked_out (seeing v p t) f o ≡ locked_out (seeing v q u) f o
  unfolding locked_out
  blind_locked_out f none = refl
  blind_locked_out f (some l) = refl

  blind_denied : (level : ℕ) (row : Option SecurityLevelConfig) (o : Option (List Failed)) → denied (seeing v p t) level row o ≡ denied (seeing v q u) level row o
  unfolding denied
  blind_denied level row none = refl
  blind_denied level row (some f) = rw (blind_locked_out f (set_lockout level (v.now + lockout_of row) v.security.locks))

  blind_judged : (level : ℕ) (o : Outcome) → judged (seeing v p t) level o ≡ judged (seeing v q u) level o
  unfolding judged
  blind_judged level (bytes b) = refl
  blind_judged level (error code) = blind_denied level (find_level v.config level) (increment_failed level v.security.failed)

  blind_seed_given : (level : ℕ) (row : SecurityLevelConfig) (o : Outcome) → seed_given (seeing v p t) level row o ≡ seed_given (seeing v q u) level row o
  unfolding seed_given
  blind_seed_given level row (bytes b) = refl
  blind_seed_given level row (error code) = refl

  blind_seed_asked : (level : ℕ) (o : Option SecurityLevelConfig) → seed_asked (seeing v p t) level o ≡ seed_asked (seeing v q u) level o
  unfolding seed_asked
  blind_seed_asked level none = refl
  blind_seed_asked level (some row) = rw (blind_seed_given level row (outcome v.limit v.given))

  blind_request_seed : (level : ℕ) → request_seed (seeing v p t) level ≡ request_seed (seeing v q u) level
  unfolding request_seed
  blind_request_seed level = rw (blind_seed_asked level (find_level v.config level))

  blind_send_key : (level : ℕ) → length p ≡ length q → send_key (seeing v p t) level ≡ send_key (seeing v q u) level
  unfolding send_key
  blind_send_key level l = rw (l, blind_judged level (outcome v.limit v.given))

  blind_access : (access : ℕ) → length p ≡ length q → security_access (seeing v p t) access ≡ security_access (seeing v q u) access
  unfolding security_access
  blind_access access l = rw (blind_request_seed access, blind_send_key (access - 1) l)

  pub blind27 : get_or p 0 0 ≡ get_or q 0 0 → length p ≡ length q → service27 (seeing v p t) ≡ service27 (seeing v q u)
  unfolding service27
  blind27 e l = rw (e, l, blind_access (sub_function q) l)

-- the others: the same payload, another table
module _ (v : Seen) (p : List ℕ) (t u : Table) where
  pub blind3E : service3E (seeing v p t) ≡ service3E (seeing v p u)
  unfolding service3E
  blind3E = refl

  blind_session : (x : ℕ) (o : Option SessionConfig) → session_control (seeing v p t) x o ≡ session_control (seeing v p u) x o
  unfolding session_control
  blind_session x none = refl
  blind_session x (some row) = refl

  pub blind10 : service10 (seeing v p t) ≡ service10 (seeing v p u)
  unfolding service10
  blind10 = rw (blind_session (sub_function p) (find_session v.config (sub_function p)))

  blind_reset : (o : Outcome) → reset (seeing v p t) o ≡ reset (seeing v p u) o
  unfolding reset
  blind_reset (bytes b) = refl
  blind_reset (error code) = refl

  pub blind11 : service11 (seeing v p t) ≡ service11 (seeing v p u)
  unfolding service11
  blind11 = rw (blind_reset (outcome v.limit v.given))

  -- an act's bytes make the same reply, and an error byte is the same refusal
  blind_acted : (k : List ℕ → Reply) (o : Outcome) → acted (seeing v p t) k o ≡ acted (seeing v p u) k o
  unfolding acted
  blind_acted k (bytes b) = refl
  blind_acted k (error code) = refl

  pub blind2E : service2E (seeing v p t) ≡ service2E (seeing v p u)
  unfolding service2E write_row
  blind2E = rw (blind_acted (written (seeing v p t)) (outcome v.limit v.given))

  pub blind31 : service31 (seeing v p t) ≡ service31 (seeing v p u)
  unfolding service31
  blind31 = rw (blind_acted (routine (seeing v p t)) (outcome v.limit v.given))

  pub blind28 : service28 (seeing v p t) ≡ service28 (seeing v p u)
  unfolding service28
  blind28 = rw (blind_acted (communication (seeing v p t)) (outcome v.limit v.given))

  pub blind2F : service2F (seeing v p t) ≡ service2F (seeing v p u)
  unfolding service2F
  blind2F = rw (blind_acted (controlled (seeing v p t)) (outcome v.limit v.given))

  pub blind34 : service34 (seeing v p t) ≡ service34 (seeing v p u)
  unfolding service34
  blind34 = rw (blind_acted positive (outcome max_download v.given))

  pub blind36 : service36 (seeing v p t) ≡ service36 (seeing v p u)
  unfolding service36
  blind36 = rw (blind_acted (transferred (seeing v p t)) (outcome v.limit v.given))

  pub blind37 : service37 (seeing v p t) ≡ service37 (seeing v p u)
  unfolding service37
  blind37 = rw (blind_acted positive (outcome v.limit v.given))

  pub blind38 : service38 (seeing v p t) ≡ service38 (seeing v p u)
  unfolding service38
  blind38 = rw (blind_acted positive (outcome v.limit v.given))

  -- 2A registers without a value
  blind_register : (mode : ℕ) (ids : List ℕ) (e : List Subscription) → register_all (seeing v p t) mode ids e ≡ register_all (seeing v p u) mode ids e
  blind_register mode [] e = refl
  blind_register mode (b ∷ ids) e =
      rw (go (register (periodic_did b) v.src (interval_for v (rate_of mode) (periodic_did b)) v.now e) (blind_register mode ids))
    where
      go : (o : Option (List Subscription)) → ((f : List Subscription) → register_all (seeing v p t) mode ids f ≡ register_all (seeing v p u) mode ids f)
          → registered (seeing v p t) e o (register_all (seeing v p t) mode ids) ≡ registered (seeing v p u) e o (register_all (seeing v p u) mode ids)
      go none ih = refl
      go (some f) ih = ih f

  pub blind2A : service2A (seeing v p t) ≡ service2A (seeing v p u)
  unfolding service2A transmission
  blind2A = rw (blind_register (get_or p 0 0) (drop 1 p) v.periodic)
