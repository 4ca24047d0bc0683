-- Nothing else meets the promises: two answers that meet one are the same answer, and two configurations that a builder's promise allows
-- are seen alike. Each public function by its contract; the laws are those of `uds`, and the one of the builders.
use Prim.Native.Nat.{ℕ}
use mathlib.Core.Path.{◌≡◌, ap, sym, ◌∙◌}
use mathlib.Core.List.{List}
use lib.ListN.{length}
use Rattle.model.specs.Config.{Config}
use Rattle.uds.proofs.Promise.{Settles, Answer}
use Rattle.uds.proofs.Settled.{said, span, looked_up}
use Rattle.uds.proofs.Tab.{tab-length}
use Rattle.config.specs.View.{session_at, service_at, did_at, level_at, session_count, service_count, did_count, level_count, config_of}
use Rattle.config.proofs.physical.Reads as physical
use Rattle.config.proofs.functional.Reads as functional
use Rattle.config.proofs.session_count.Reads as session-count
use Rattle.config.proofs.service_count.Reads as service-count
use Rattle.config.proofs.did_count.Reads as did-count
use Rattle.config.proofs.security_level_count.Reads as security-level-count
use Rattle.config.proofs.find_session.Reads as find-session
use Rattle.config.proofs.find_service.Reads as find-service
use Rattle.config.proofs.find_did.Reads as find-did
use Rattle.config.proofs.find_security_level.Reads as find-security-level
use Rattle.config.proofs.p2.Reads as p2
use Rattle.config.proofs.p2_ext.Reads as p2-ext
use Rattle.config.proofs.s3.Reads as s3
use Rattle.config.proofs.did_level.Reads as did-level
use Rattle.config.proofs.min_interval.Reads as min-interval
use Rattle.config.proofs.max_attempts.Reads as max-attempts
use Rattle.config.proofs.lockout.Reads as lockout
use Rattle.config.proofs.seed_length.Reads as seed-length
use Rattle.config.proofs.key_length.Reads as key-length
use Rattle.config.proofs.allowed_in.Reads as allowed-in
use Rattle.config.proofs.readable_in.Reads as readable-in
use Rattle.config.proofs.writable_in.Reads as writable-in
use Rattle.config.proofs.service_allowed.Reads as service-allowed
use Rattle.config.proofs.did_readable.Reads as did-readable
use Rattle.config.proofs.did_writable.Reads as did-writable
use Rattle.config.proofs.within.Reads as within
use Rattle.config.proofs.build.new.Reads as new
use Rattle.config.proofs.build.with_session.Reads as with_session
use Rattle.config.proofs.build.with_service.Reads as with_service
use Rattle.config.proofs.build.with_did.Reads as with_did
use Rattle.config.proofs.build.with_security_level.Reads as with-security-level

-- new, with_session, with_service, with_did, with_security_level: the configuration that is seen, and so how many rows it has of each kind
pub record SameConfig (w w' : List ℕ) : Type 0 where
  pub seen : config_of w ≡ config_of w'
  pub sessions : session_count w ≡ session_count w'
  pub services : service_count w ≡ service_count w'
  pub dids : did_count w ≡ did_count w'
  pub levels : level_count w ≡ level_count w'

pub built : (w w' : List ℕ) (c : Config) → config_of w ≡ c → config_of w' ≡ c → SameConfig w w'
built w w' c e e' = record {
  seen = z;
  sessions = sym (tab-length (session_at w) 0 (session_count w)) ∙ ap (λ (c : Config). length c.sessions) z ∙ tab-length (session_at w') 0 (session_count w');
  services = sym (tab-length (service_at w) 0 (service_count w)) ∙ ap (λ (c : Config). length c.services) z ∙ tab-length (service_at w') 0 (service_count w');
  dids = sym (tab-length (did_at w) 0 (did_count w)) ∙ ap (λ (c : Config). length c.dids) z ∙ tab-length (did_at w') 0 (did_count w');
  levels = sym (tab-length (level_at w) 0 (level_count w)) ∙ ap (λ (c : Config). length c.levels) z ∙ tab-length (level_at w') 0 (level_count w');
}
  where
    z : config_of w ≡ config_of w'
    z = said e e'

-- addresses and counts
pub physical_settled : (κs : _) (a : _) → Settles (physical.Post κs a) Answer
physical_settled κs a x e y f p q = said p q

pub functional_settled : (κs : _) (a : _) → Settles (functional.Post κs a) Answer
functional_settled κs a x e y f p q = said p q

pub session_count_settled : (κs : _) (a : _) → Settles (session-count.Post κs a) Answer
session_count_settled κs a x e y f p q = said p q

pub service_count_settled : (κs : _) (a : _) → Settles (service-count.Post κs a) Answer
service_count_settled κs a x e y f p q = said p q

pub did_count_settled : (κs : _) (a : _) → Settles (did-count.Post κs a) Answer
did_count_settled κs a x e y f p q = said p q

pub security_level_count_settled : (κs : _) (a : _) → Settles (security-level-count.Post κs a) Answer
security_level_count_settled κs a x e y f p q = said p q

-- lookups
pub find_session_settled : (κs : _) (a : _) → Settles (find-session.Post κs a) Answer
find_session_settled κs a x e y f p q = looked_up p q

pub find_service_settled : (κs : _) (a : _) → Settles (find-service.Post κs a) Answer
find_service_settled κs a x e y f p q = looked_up p q

pub find_did_settled : (κs : _) (a : _) → Settles (find-did.Post κs a) Answer
find_did_settled κs a x e y f p q = looked_up p q

pub find_security_level_settled : (κs : _) (a : _) → Settles (find-security-level.Post κs a) Answer
find_security_level_settled κs a x e y f p q = looked_up p q

-- what a row says
pub p2_settled : (κs : _) (a : _) → Settles (p2.Post κs a) Answer
p2_settled κs a x e y f p q = span p q

pub p2_ext_settled : (κs : _) (a : _) → Settles (p2-ext.Post κs a) Answer
p2_ext_settled κs a x e y f p q = span p q

pub s3_settled : (κs : _) (a : _) → Settles (s3.Post κs a) Answer
s3_settled κs a x e y f p q = span p q

pub did_level_settled : (κs : _) (a : _) → Settles (did-level.Post κs a) Answer
did_level_settled κs a x e y f p q = said p q

pub min_interval_settled : (κs : _) (a : _) → Settles (min-interval.Post κs a) Answer
min_interval_settled κs a x e y f p q = span p q

pub max_attempts_settled : (κs : _) (a : _) → Settles (max-attempts.Post κs a) Answer
max_attempts_settled κs a x e y f p q = said p q

pub lockout_settled : (κs : _) (a : _) → Settles (lockout.Post κs a) Answer
lockout_settled κs a x e y f p q = span p q

pub seed_length_settled : (κs : _) (a : _) → Settles (seed-length.Post κs a) Answer
seed_length_settled κs a x e y f p q = said p q

pub key_length_settled : (κs : _) (a : _) → Settles (key-length.Post κs a) Answer
key_length_settled κs a x e y f p q = said p q

pub allowed_in_settled : (κs : _) (a : _) → Settles (allowed-in.Post κs a) Answer
allowed_in_settled κs a x e y f p q = said p q

pub readable_in_settled : (κs : _) (a : _) → Settles (readable-in.Post κs a) Answer
readable_in_settled κs a x e y f p q = said p q

pub writable_in_settled : (κs : _) (a : _) → Settles (writable-in.Post κs a) Answer
writable_in_settled κs a x e y f p q = said p q

pub service_allowed_settled : (κs : _) (a : _) → Settles (service-allowed.Post κs a) Answer
service_allowed_settled κs a x e y f p q = said p q

pub did_readable_settled : (κs : _) (a : _) → Settles (did-readable.Post κs a) Answer
did_readable_settled κs a x e y f p q = said p q

pub did_writable_settled : (κs : _) (a : _) → Settles (did-writable.Post κs a) Answer
did_writable_settled κs a x e y f p q = said p q

-- whether the numbers are kept
pub within_settled : (κs : _) (a : _) → Settles (within.Post κs a) Answer
within_settled κs a x e y f p q = said p q

-- the builders
pub new_settled : (κs : _) (a : _) → Settles (new.Post κs a) (λ x e y f. SameConfig x y)
new_settled κs a x e y f p q = built x y _ p q

pub with_session_settled : (κs : _) (a : _) → Settles (with_session.Post κs a) (λ x e y f. SameConfig x y)
with_session_settled κs a x e y f p q = built x y _ p q

pub with_service_settled : (κs : _) (a : _) → Settles (with_service.Post κs a) (λ x e y f. SameConfig x y)
with_service_settled κs a x e y f p q = built x y _ p q

pub with_did_settled : (κs : _) (a : _) → Settles (with_did.Post κs a) (λ x e y f. SameConfig x y)
with_did_settled κs a x e y f p q = built x y _ p q

pub with_security_level_settled : (κs : _) (a : _) → Settles (with-security-level.Post κs a) (λ x e y f. SameConfig x y)
with_security_level_settled κs a x e y f p q = built x y _ p q
