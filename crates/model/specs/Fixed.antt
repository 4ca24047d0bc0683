-- The fixed configuration of `udstrace`.
use Rattle.std.specs.Prelude.{ℕ, List, [], ◌∷◌, map}
use Rattle.model.specs.Config.{SessionConfig, ServiceConfig, DidConfig, Config}

-- sessions 1 and 3
abbrev pub both : List ℕ
both = 1 ∷ 3 ∷ []

abbrev pub fixed_session : ℕ → SessionConfig
fixed_session x = record { session_type = x; p2 = 50; p2_ext = 5000; s3 = 5000 }

-- a service in both sessions
abbrev pub fixed_service : ℕ → ServiceConfig
fixed_service sid = record { service_id = sid; supported_in = both }

-- an identifier, readable and writable in both sessions, minimum 0
abbrev pub fixed_did : ℕ → ℕ → DidConfig
fixed_did x level = record { identifier = x; readable_in = both; writable_in = both; level = level; min_interval = 0 }

-- all fourteen services
abbrev pub fourteen : List ℕ
fourteen = 0x3E ∷ 0x10 ∷ 0x11 ∷ 0x27 ∷ 0x22 ∷ 0x2E ∷ 0x2A ∷ 0x31 ∷ 0x28 ∷ 0x2F ∷ 0x34 ∷ 0x36 ∷ 0x37 ∷ 0x38 ∷ []

abbrev pub fixed_config : Config
fixed_config = record {
  physical = 16;
  functional = 2015;
  sessions = map fixed_session both;
  services = map fixed_service fourteen;
  dids = fixed_did 0xF190 3 ∷ fixed_did 0xF201 0 ∷ [];
  levels = record { level = 3; max_attempts = 3; lockout = 10000; seed_length = 4; key_length = 4 } ∷ [];
}
