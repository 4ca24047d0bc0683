-- What a server holds, what a fresh one holds, and when a state is valid.
use Rattle.std.specs.Prelude.{ℕ, ◌+◌, Bool, true, ◌&&◌, List, [], length, nat_le, nat_lt}
use Rattle.std.proofs.Math.Option.{Option, some, none}
use Rattle.model.specs.Tests.{pick}
use Rattle.model.specs.Numbers.{Moment, Span, max_outbox, max_levels, max_seed, max_periodic, max_time, max_span}
use Rattle.model.specs.Config.{Config, empty_config, within, table_within}
use Rattle.model.specs.Frame.{Frame}

-- how the request at hand, or the last one, was addressed
pub data AddressMode : Type 0 where
  physical : AddressMode
  functional : AddressMode

-- the session, the held security level, and when the last request came
pub record Session : Type 0 where
  pub session_type : ℕ
  pub level : ℕ
  pub last_rx : Moment

-- refused keys of a level
pub record Failed : Type 0 where
  pub level : ℕ
  pub count : ℕ

-- until when a level is locked
pub record Lock : Type 0 where
  pub level : ℕ
  pub until : Moment

-- the seed that awaits its key (empty if none does) and its level; the counts and the locks
pub record Security : Type 0 where
  pub seed : List ℕ
  pub seed_level : ℕ
  pub failed : List Failed
  pub locks : List Lock

-- an identifier that is sent to a client every interval, next at a moment
pub record Subscription : Type 0 where
  pub identifier : ℕ
  pub client : ℕ
  pub interval : Span
  pub next : Moment

-- a request that was answered 0x78: whom to answer, for which service, and when 0x78 is due again
pub record PendingRequest : Type 0 where
  pub dst : ℕ
  pub sid : ℕ
  pub deadline : Moment

pub record State : Type 0 where
  pub config : Config
  pub session : Session
  pub security : Security
  pub periodic : List Subscription
  pub pending : Option PendingRequest
  pub mode : AddressMode
  pub queue : List Frame

-- a fresh session, security state and table of subscriptions
abbrev pub fresh_session : Session
fresh_session = record { session_type = 1; level = 0; last_rx = 0 }

abbrev pub fresh_security : Security
fresh_security = record { seed = []; seed_level = 0; failed = []; locks = [] }

abbrev pub fresh_periodic : List Subscription
fresh_periodic = []

-- the fresh server of a configuration
abbrev pub fresh_state : Config → State
fresh_state c = record { config = c; session = fresh_session; security = fresh_security; periodic = fresh_periodic; pending = none; mode = physical; queue = [] }

-- a call's result number and the state that it leaves
pub record Step : Type 0 where
  pub result : ℕ
  pub state : State

abbrev pub step : ℕ → State → Step
step n s = record { result = n; state = s }

-- 7 and the fresh server of the empty configuration where the configuration is outside a number, else the fresh server
unfoldable pub fresh : Config → Step
fresh c = pick (within c) (step 0 (fresh_state c)) (step 7 (fresh_state empty_config))

-- no moment exceeds 2^48 plus 2^32
abbrev pub moment_valid : Moment → Bool
moment_valid t = nat_le t (max_time + max_span)

abbrev pub lock_valid : Lock → Bool
lock_valid l = moment_valid l.until

-- a subscription's interval is a span below 2^32
abbrev pub subscription_valid : Subscription → Bool
subscription_valid e = nat_lt e.interval max_span && moment_valid e.next

-- a queued frame has at least a byte and at most `limit`
abbrev pub frame_valid : ℕ → Frame → Bool
frame_valid limit f = nat_le 1 (length f.bytes) && nat_le (length f.bytes) limit

unfoldable pub security_valid : Security → Bool
security_valid k = nat_le (length k.seed) max_seed && nat_le (length k.failed) max_levels && table_within max_levels lock_valid k.locks

-- a pending request that is not there has no moment to test
abbrev pub pending_valid : Option PendingRequest → Bool
pending_valid none = true
pending_valid (some p) = moment_valid p.deadline

-- a state is valid when its configuration, counts, lengths and moments keep the numbers
unfoldable pub valid : ℕ → State → Bool
valid limit s =
    within s.config
    && moment_valid s.session.last_rx
    && security_valid s.security
    && table_within max_periodic subscription_valid s.periodic
    && pending_valid s.pending
    && table_within max_outbox (frame_valid limit) s.queue

-- the state with one part changed
abbrev pub with_queue : State → List Frame → State
with_queue s q = record { config = s.config; session = s.session; security = s.security; periodic = s.periodic; pending = s.pending; mode = s.mode; queue = q }

abbrev pub with_pending : State → Option PendingRequest → State
with_pending s p = record { config = s.config; session = s.session; security = s.security; periodic = s.periodic; pending = p; mode = s.mode; queue = s.queue }

-- the session, security and subscriptions changed, which is all that a service can change
abbrev pub with_records : State → Session → Security → List Subscription → State
with_records s a b c = record { config = s.config; session = a; security = b; periodic = c; pending = s.pending; mode = s.mode; queue = s.queue }

-- a request was received: how it was addressed, and when
abbrev pub received : State → AddressMode → Moment → State
received s m t = record {
  config = s.config;
  session = record { session_type = s.session.session_type; level = s.session.level; last_rx = t };
  security = s.security;
  periodic = s.periodic;
  pending = s.pending;
  mode = m;
  queue = s.queue;
}

-- another session opened: no level is held
abbrev pub opened : Session → ℕ → Session
opened a x = record { session_type = x; level = 0; last_rx = a.last_rx }

-- a level held
abbrev pub unlocked : Session → ℕ → Session
unlocked a l = record { session_type = a.session_type; level = l; last_rx = a.last_rx }

-- the seed cleared: counts and locks stay
abbrev pub cleared : Security → Security
cleared k = record { seed = []; seed_level = 0; failed = k.failed; locks = k.locks }

-- other counts, and other locks
abbrev pub with_failed : Security → List Failed → Security
with_failed k f = record { seed = k.seed; seed_level = k.seed_level; failed = f; locks = k.locks }

abbrev pub with_locks : Security → List Lock → Security
with_locks k l = record { seed = k.seed; seed_level = k.seed_level; failed = k.failed; locks = l }
