-- The servers, configurations and requests by which the departures from ISO 14229-1 are shown. The states are chosen as a server would come by them, which is not proved.
use Prim.Native.Nat.{ℕ}
use mathlib.Core.List.{List, [], ◌∷◌, map}
use mathlib.Core.Option.{some, none}
use Rattle.model.specs.Config.{SessionConfig, DidConfig, SecurityLevelConfig, Config}
use Rattle.model.specs.Values.{Given, given0, Table, empty_table}
use Rattle.model.specs.Frame.{Frame}
use Rattle.model.specs.State.{State, Subscription, fresh_security, physical, with_records, with_pending}
use Rattle.model.specs.Request.{Request}
use Rattle.model.specs.Fixed.{fixed_config, fixed_did}

-- a configuration with other sessions, identifiers or levels
abbrev pub with_sessions : Config → List SessionConfig → Config
with_sessions c x = record { physical = c.physical; functional = c.functional; sessions = x; services = c.services; dids = c.dids; levels = c.levels }

abbrev pub with_dids : Config → List DidConfig → Config
with_dids c x = record { physical = c.physical; functional = c.functional; sessions = c.sessions; services = c.services; dids = x; levels = c.levels }

abbrev pub with_levels : Config → List SecurityLevelConfig → Config
with_levels c x = record { physical = c.physical; functional = c.functional; sessions = c.sessions; services = c.services; dids = c.dids; levels = x }

-- a client, and the two addresses that it can call
abbrev pub client : ℕ
client = 3712

abbrev pub server : ℕ
server = 16

abbrev pub everyone : ℕ
everyone = 2015

-- a server in a session, with a level held
abbrev pub server_in : Config → ℕ → ℕ → State
server_in c session level = record {
  config = c;
  session = record { session_type = session; level = level; last_rx = 0 };
  security = fresh_security;
  periodic = [];
  pending = none;
  mode = physical;
  queue = [];
}

abbrev pub default : State
default = server_in fixed_config 1 0

-- a level with seeds of a length
abbrev pub level_row : ℕ → ℕ → SecurityLevelConfig
level_row level n = record { level = level; max_attempts = 3; lockout = 10000; seed_length = n; key_length = 4 }

-- the fixed configuration with seeds of 32 bytes, with the levels 3 and 5, with the level 7F, with a guarded periodic identifier, with a P2 of 70 seconds
abbrev pub long_seeds : Config
long_seeds = with_levels fixed_config (level_row 3 32 ∷ [])

abbrev pub two_levels : Config
two_levels = with_levels fixed_config (level_row 3 4 ∷ level_row 5 4 ∷ [])

abbrev pub reserved_level : Config
reserved_level = with_levels fixed_config (level_row 0x7F 4 ∷ [])

abbrev pub guarded_periodic : Config
guarded_periodic = with_dids fixed_config (fixed_did 0xF202 3 ∷ [])

abbrev pub long_p2 : Config
long_p2 = with_sessions fixed_config (record { session_type = 1; p2 = 70000; p2_ext = 5000; s3 = 5000 } ∷ [])

-- F201 for a client at the slow rate; a server with sixteen clients, which is as many as it can hold; and one with the client's own, sent last at 4000
abbrev pub subscribed : ℕ → ℕ → Subscription
subscribed next x = record { identifier = 0xF201; client = x; interval = 2000; next = next }

abbrev pub subscribed_in : ℕ → List Subscription → State
subscribed_in session t = with_records (server_in fixed_config session 0) (server_in fixed_config session 0).session fresh_security t

abbrev pub crowded : State
crowded = subscribed_in 1 (map (subscribed 2000) (1 ∷ 2 ∷ 3 ∷ 4 ∷ 5 ∷ 6 ∷ 7 ∷ 8 ∷ 9 ∷ 10 ∷ 11 ∷ 12 ∷ 13 ∷ 14 ∷ 15 ∷ 16 ∷ []))

abbrev pub watched : State
watched = subscribed_in 3 (subscribed 6000 client ∷ [])

-- a server that was asked for a service at 0 and answered 78, which is due again at a moment
abbrev pub pending_for : ℕ → ℕ → State
pending_for sid deadline = with_pending (server_in fixed_config 3 0) (some (record { dst = client; sid = sid; deadline = deadline }))

abbrev pub busy : State
busy = pending_for 0x31 5000

-- a request of the client, with what is handed in for its act, and the value table
abbrev pub frame : ℕ → List ℕ → Given → Table → Request
frame dst bytes given table = record { inbound = record { time = 100; src = client; dst = dst; frame = bytes }; given = given; table = table }

-- whose act is done, or gives bytes; and with an identifier whose value is 2A
abbrev pub asks : List ℕ → Request
asks bytes = frame server bytes given0 empty_table

abbrev pub acts : List ℕ → List ℕ → Request
acts bytes given = frame server bytes (record { err = 0; bytes = given }) empty_table

abbrev pub reads : List ℕ → ℕ → Request
reads bytes x = frame server bytes given0 (record { rows = record { identifier = x; err = 0; start = 0; len = 1 } ∷ []; pool = 0x2A ∷ [] })

abbrev pub seed : List ℕ
seed = 0x01 ∷ 0x02 ∷ 0x03 ∷ 0x04 ∷ []

abbrev pub to : ℕ → List ℕ → List Frame
to dst bytes = record { dst = dst; bytes = bytes } ∷ []
