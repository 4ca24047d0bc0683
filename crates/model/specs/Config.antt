-- Configuration: its rows, the lookups over them, and when it keeps the numbers.
use Rattle.std.specs.Prelude.{ℕ, Bool, false, ◌&&◌, List, [], length, nat_eq, nat_le, nat_lt}
use Rattle.std.proofs.Math.Option.{Option, some, none}
use Rattle.model.specs.Tests.{memb, all, first}
use Rattle.model.specs.Numbers.{Span, max_sessions, max_services, max_dids, max_levels, max_listed, max_seed, max_span, default_s3, default_p2, default_p2_ext, default_lockout, default_max_attempts}

pub record SessionConfig : Type 0 where
  pub session_type : ℕ
  pub p2 : Span
  pub p2_ext : Span
  pub s3 : Span

pub record ServiceConfig : Type 0 where
  pub service_id : ℕ
  pub supported_in : List ℕ

pub record DidConfig : Type 0 where
  pub identifier : ℕ
  pub readable_in : List ℕ
  pub writable_in : List ℕ
  pub level : ℕ
  pub min_interval : Span

pub record SecurityLevelConfig : Type 0 where
  pub level : ℕ
  pub max_attempts : ℕ
  pub lockout : Span
  pub seed_length : ℕ
  pub key_length : ℕ

pub record Config : Type 0 where
  pub physical : ℕ
  pub functional : ℕ
  pub sessions : List SessionConfig
  pub services : List ServiceConfig
  pub dids : List DidConfig
  pub levels : List SecurityLevelConfig

-- the empty configuration: addresses 0, no rows
abbrev pub empty_config : Config
empty_config = record { physical = 0; functional = 0; sessions = []; services = []; dids = []; levels = [] }

-- what a row is looked up by
abbrev pub is_session : ℕ → SessionConfig → Bool
is_session x r = nat_eq r.session_type x

abbrev pub is_service : ℕ → ServiceConfig → Bool
is_service x r = nat_eq r.service_id x

abbrev pub is_did : ℕ → DidConfig → Bool
is_did x r = nat_eq r.identifier x

abbrev pub is_level : ℕ → SecurityLevelConfig → Bool
is_level x r = nat_eq r.level x

-- the first configured row wins in each lookup
abbrev pub find_session : Config → ℕ → Option SessionConfig
find_session c x = first (is_session x) c.sessions

abbrev pub find_service : Config → ℕ → Option ServiceConfig
find_service c x = first (is_service x) c.services

abbrev pub find_did : Config → ℕ → Option DidConfig
find_did c x = first (is_did x) c.dids

abbrev pub find_level : Config → ℕ → Option SecurityLevelConfig
find_level c x = first (is_level x) c.levels

-- the spans of a session's row, or the default
abbrev pub s3_of : Option SessionConfig → Span
s3_of none = default_s3
s3_of (some r) = r.s3

abbrev pub p2_of : Option SessionConfig → Span
p2_of none = default_p2
p2_of (some r) = r.p2

abbrev pub p2_ext_of : Option SessionConfig → Span
p2_ext_of none = default_p2_ext
p2_ext_of (some r) = r.p2_ext

-- the attempts and the lockout of a level's row, or the default
abbrev pub max_attempts_of : Option SecurityLevelConfig → ℕ
max_attempts_of none = default_max_attempts
max_attempts_of (some r) = r.max_attempts

abbrev pub lockout_of : Option SecurityLevelConfig → Span
lockout_of none = default_lockout
lockout_of (some r) = r.lockout

-- a service is allowed in the sessions that its row lists
abbrev pub allowed_in : ℕ → ServiceConfig → Bool
allowed_in session r = memb session r.supported_in

-- an identifier is readable, or writable, in the sessions that its row lists; without a row in none
abbrev pub readable : ℕ → Option DidConfig → Bool
readable session none = false
readable session (some r) = memb session r.readable_in

abbrev pub writable : ℕ → Option DidConfig → Bool
writable session none = false
writable session (some r) = memb session r.writable_in

-- the level that an identifier needs, and the interval below which it is not sent
abbrev pub level_of : Option DidConfig → ℕ
level_of none = 0
level_of (some r) = r.level

abbrev pub min_interval_of : Option DidConfig → Span
min_interval_of none = 0
min_interval_of (some r) = r.min_interval

-- a row keeps the numbers
abbrev pub session_within : SessionConfig → Bool
session_within r = nat_lt r.p2 max_span && nat_lt r.p2_ext max_span && nat_lt r.s3 max_span

abbrev pub service_within : ServiceConfig → Bool
service_within r = nat_le (length r.supported_in) max_listed

abbrev pub did_within : DidConfig → Bool
did_within r = nat_le (length r.readable_in) max_listed && nat_le (length r.writable_in) max_listed && nat_lt r.min_interval max_span

abbrev pub level_within : SecurityLevelConfig → Bool
level_within r = nat_lt r.lockout max_span && nat_le r.seed_length max_seed && nat_le r.key_length max_seed

-- a table has at most so many rows, and each keeps the numbers
abbrev pub table_within : {B : Type 0} → ℕ → (B → Bool) → List B → Bool
table_within most p rows = nat_le (length rows) most && all p rows

-- a configuration keeps the numbers
unfoldable pub within : Config → Bool
within c =
    table_within max_sessions session_within c.sessions
    && table_within max_services service_within c.services
    && table_within max_dids did_within c.dids
    && table_within max_levels level_within c.levels
