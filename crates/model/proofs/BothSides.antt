-- Both sides of the line: twelve cases as one table under one theorem, and the worked trace, by computation.
use Prim.Native.Nat.{ℕ, zero, suc}
use mathlib.Core.Path.{◌≡◌, refl}
use mathlib.Core.List.{List, [], ◌∷◌, map}
use mathlib.Core.Option.{some, none}
use lib.ListN.{replicate}
use Rattle.model.specs.Numbers.{max_frame}
use Rattle.model.specs.Config.{Config}
use Rattle.model.specs.Values.{Given, given0, empty_table}
use Rattle.model.specs.Frame.{Frame}
use Rattle.model.specs.State.{physical, Security, Subscription, PendingRequest, State, fresh_session, fresh_security, fresh_state}
use Rattle.model.specs.Service.{no_act}
use Rattle.model.specs.History.{Call, requests, ticks, drains, Shown, Done, call, shows}
use Rattle.model.specs.Fixed.{fixed_config}
use Rattle.model.proofs.Open.{whole}

-- a case: a state, a call, and what must be seen after it
pub record Sight : Type 0 where
  pub result : ℕ
  pub act : ℕ
  pub session : ℕ
  pub last_rx : ℕ
  pub seed : List ℕ
  pub frames : List (List ℕ)

pub record Case : Type 0 where
  pub state : State
  pub made : Call
  pub expected : Sight

abbrev bytes_of : Frame → List ℕ
bytes_of f = f.bytes

abbrev sight : Done → Sight
sight d = record {
  result = d.shown.result;
  act = d.shown.act.number;
  session = d.state.session.session_type;
  last_rx = d.state.session.last_rx;
  seed = d.state.security.seed;
  frames = map bytes_of d.state.queue;
}

abbrev pub actual : Case → Sight
actual c = sight (call max_frame c.state c.made)

abbrev pub wanted : Case → Sight
wanted c = c.expected

-- a request at a moment, from 3712, with what its act gives
abbrev ask : ℕ → ℕ → List ℕ → Given → Call
ask t dst frame g = requests (record { inbound = record { time = t; src = 3712; dst = dst; frame = frame }; given = g; table = empty_table })

abbrev gives : List ℕ → Given
gives b = record { err = 0; bytes = b }

-- the fixed configuration, with another length of level 3's seed
abbrev seeds_of : ℕ → Config
seeds_of n = record {
  physical = 16;
  functional = 2015;
  sessions = fixed_config.sessions;
  services = fixed_config.services;
  dids = fixed_config.dids;
  levels = record { level = 3; max_attempts = 3; lockout = 10000; seed_length = n; key_length = 4 } ∷ [];
}

-- the fresh server of the fixed configuration, but for one part
abbrev secured : Security → State
secured k = record { config = fixed_config; session = fresh_session; security = k; periodic = []; pending = none; mode = physical; queue = [] }

abbrev awaiting : PendingRequest → State
awaiting p = record { config = fixed_config; session = fresh_session; security = fresh_security; periodic = []; pending = some p; mode = physical; queue = [] }

abbrev subscribed : List Subscription → State
subscribed t = record { config = fixed_config; session = fresh_session; security = fresh_security; periodic = t; pending = none; mode = physical; queue = [] }

-- sixteen clients of F201
abbrev clients : ℕ → List Subscription
clients zero = []
clients (suc n) = record { identifier = 0xF201; client = n; interval = 50; next = 900 } ∷ clients n

-- session 3, asked for at 100, with its reply drained
abbrev extended : State
extended = record { config = fixed_config; session = record { session_type = 3; level = 0; last_rx = 100 }; security = fresh_security; periodic = []; pending = none; mode = physical; queue = [] }

abbrev until900 : State
until900 = secured (record { seed = []; seed_level = 0; failed = []; locks = record { level = 3; until = 900 } ∷ [] })

abbrev deadline700 : State
deadline700 = awaiting (record { dst = 3712; sid = 0x31; deadline = 700 })

abbrev seeded4 : State
seeded4 = secured (record { seed = 1 ∷ 2 ∷ 3 ∷ 4 ∷ []; seed_level = 3; failed = []; locks = [] })

abbrev sees : ℕ → ℕ → ℕ → List ℕ → List (List ℕ) → Sight
sees act session t seed fs = record { result = 0; act = act; session = session; last_rx = t; seed = seed; frames = fs }

abbrev pub table : List Case
table =
    -- session 3 since 100: at 5100 it stands, at 5101 it is over
    record { state = extended; made = ticks 5100 empty_table; expected = sees 0 3 100 [] [] }
    ∷ record { state = extended; made = ticks 5101 empty_table; expected = sees 0 1 100 [] [] }
    -- a seed of 31 is sent, one of 32 is too long
    ∷ record { state = fresh_state (seeds_of 31); made = ask 5 16 (0x27 ∷ 3 ∷ []) (gives (replicate 31 7)); expected = sees 0x27 1 5 (replicate 31 7) ((0x67 ∷ 3 ∷ replicate 31 7) ∷ []) }
    ∷ record { state = fresh_state (seeds_of 32); made = ask 5 16 (0x27 ∷ 3 ∷ []) (gives (replicate 32 7)); expected = sees 0x27 1 5 [] ((0x7F ∷ 0x27 ∷ 0x14 ∷ []) ∷ []) }
    -- locked until 900: at 899 the delay runs, at 900 the seed is asked
    ∷ record { state = until900; made = ask 899 16 (0x27 ∷ 3 ∷ []) (gives (1 ∷ 2 ∷ 3 ∷ 4 ∷ [])); expected = sees 0 1 899 [] ((0x7F ∷ 0x27 ∷ 0x37 ∷ []) ∷ []) }
    ∷ record { state = until900; made = ask 900 16 (0x27 ∷ 3 ∷ []) (gives (1 ∷ 2 ∷ 3 ∷ 4 ∷ [])); expected = sees 0x27 1 900 (1 ∷ 2 ∷ 3 ∷ 4 ∷ []) ((0x67 ∷ 3 ∷ 1 ∷ 2 ∷ 3 ∷ 4 ∷ []) ∷ []) }
    -- deadline 700: at 699 silent, at 700 0x78
    ∷ record { state = deadline700; made = ticks 699 empty_table; expected = sees 0 1 0 [] [] }
    ∷ record { state = deadline700; made = ticks 700 empty_table; expected = sees 0 1 0 [] ((0x7F ∷ 0x31 ∷ 0x78 ∷ []) ∷ []) }
    -- functional 22 of an unreadable identifier: silent
    ∷ record { state = fresh_state fixed_config; made = ask 5 2015 (0x22 ∷ 0xAB ∷ 0xCD ∷ []) given0; expected = sees 0 1 5 [] [] }
    -- functional 2A, table full: 0x31
    ∷ record { state = subscribed (clients 16); made = ask 5 2015 (0x2A ∷ 3 ∷ 1 ∷ []) given0; expected = sees 0 1 5 [] ((0x7F ∷ 0x2A ∷ 0x31 ∷ []) ∷ []) }
    -- a key one byte short: 0x13, the seed kept
    ∷ record { state = seeded4; made = ask 5 16 (0x27 ∷ 4 ∷ 9 ∷ 9 ∷ 9 ∷ []) given0; expected = sees 0 1 5 (1 ∷ 2 ∷ 3 ∷ 4 ∷ []) ((0x7F ∷ 0x27 ∷ 0x13 ∷ []) ∷ []) }
    -- a foreign dst: last_rx unchanged
    ∷ record { state = extended; made = ask 5 17 (0x3E ∷ 0 ∷ []) given0; expected = sees 0 3 100 [] [] }
    ∷ []

pub twelve : map actual table ≡ map wanted table
unfolding whole
twelve = refl

-- the worked trace: 10 03 at 100 and a tick at 5101, each drained into a buffer of sixteen bytes
abbrev worked : List Call
worked = ask 100 16 (0x10 ∷ 3 ∷ []) given0 ∷ drains (replicate 16 0xEE) ∷ ticks 5101 empty_table ∷ drains (replicate 16 0xEE) ∷ []

-- a call of the trace: its result, the frames drained and the buffer; and the session after each
abbrev line : ℕ → List ℕ → Shown
line n b = record { result = 0; err = 0; act = no_act; count = n; buffer = b }

abbrev sessions : State → List Call → List ℕ
sessions s [] = []
sessions s (c ∷ h) = (call max_frame s c).state.session.session_type ∷ sessions (call max_frame s c).state h

pub trace-shows : shows max_frame (fresh_state fixed_config) worked
    ≡ line 0 []
    ∷ line 1 (0x0A ∷ 0 ∷ 1 ∷ 0 ∷ 0x80 ∷ 0x0E ∷ 0 ∷ 0 ∷ 0x50 ∷ 3 ∷ 0 ∷ 0x32 ∷ 1 ∷ 0xF4 ∷ 0xEE ∷ 0xEE ∷ [])
    ∷ line 0 []
    ∷ line 0 (replicate 16 0xEE)
    ∷ []
unfolding whole
trace-shows = refl

pub trace-sessions : sessions (fresh_state fixed_config) worked ≡ 3 ∷ 3 ∷ 1 ∷ 1 ∷ []
unfolding whole
trace-sessions = refl
