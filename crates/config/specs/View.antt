-- The configuration's words, and the configuration of the definition that they mean. A count says how many rows there are, whatever
-- the image has room for: so one that is too large is seen, and the definition's `within` refuses it. What a row says is never too
-- large: of a list's length no more than eight counts, of a seed's and a key's no more than 32, and a span is a word. Words outside the
-- image are 0.
use Rattle.std.specs.Prelude.{ℕ, ◌+◌, ◌*◌, min, List, Bool, false, get_or}
use Rattle.std.proofs.Math.Option.{Option, some, none}
use Rattle.model.specs.Numbers.{max_listed, max_seed}
use Rattle.model.specs.Config.{SessionConfig, ServiceConfig, DidConfig, SecurityLevelConfig, Config, allowed_in}
use Rattle.uds.specs.Table.{tab, column}

-- a word of which no more than `most` counts
abbrev pub capped : ℕ → ℕ → ℕ
capped x most = min x most

-- a list: a word that says how many sessions, at most eight, and as many words after it
abbrev pub list_at : List ℕ → ℕ → List ℕ
list_at w at = tab (column w (at + 1) 1) 0 (capped (get_or w at 0) max_listed)

-- rows by their number: sessions of 4 words from 6 on
abbrev pub session_at : List ℕ → ℕ → SessionConfig
session_at w i = record { session_type = column w 6 4 i; p2 = column w 7 4 i; p2_ext = column w 8 4 i; s3 = column w 9 4 i }

-- services of 10 words from 38 on
abbrev pub service_at : List ℕ → ℕ → ServiceConfig
service_at w i = record { service_id = column w 38 10 i; supported_in = list_at w (39 + i * 10) }

-- identifiers of 21 words from 278 on
abbrev pub did_at : List ℕ → ℕ → DidConfig
did_at w i = record {
  identifier = column w 278 21 i;
  readable_in = list_at w (281 + i * 21);
  writable_in = list_at w (290 + i * 21);
  level = column w 279 21 i;
  min_interval = column w 280 21 i;
}

-- security levels of 5 words from 2966 on
abbrev pub level_at : List ℕ → ℕ → SecurityLevelConfig
level_at w i = record {
  level = column w 2966 5 i;
  max_attempts = column w 2967 5 i;
  lockout = column w 2968 5 i;
  seed_length = capped (column w 2969 5 i) max_seed;
  key_length = capped (column w 2970 5 i) max_seed;
}

-- how many rows of each there are
abbrev pub session_count : List ℕ → ℕ
session_count w = get_or w 2 0

abbrev pub service_count : List ℕ → ℕ
service_count w = get_or w 3 0

abbrev pub did_count : List ℕ → ℕ
did_count w = get_or w 4 0

abbrev pub level_count : List ℕ → ℕ
level_count w = get_or w 5 0

abbrev pub config_of : List ℕ → Config
config_of w = record {
  physical = get_or w 0 0;
  functional = get_or w 1 0;
  sessions = tab (session_at w) 0 (session_count w);
  services = tab (service_at w) 0 (service_count w);
  dids = tab (did_at w) 0 (did_count w);
  levels = tab (level_at w) 0 (level_count w);
}

-- a service that has no row is allowed in no session
abbrev pub allowed : ℕ → Option ServiceConfig → Bool
allowed session none = false
allowed session (some r) = allowed_in session r

-- the lengths of a level's row, and 0 where it has none
abbrev pub seed_length_of : Option SecurityLevelConfig → ℕ
seed_length_of none = 0
seed_length_of (some r) = r.seed_length

abbrev pub key_length_of : Option SecurityLevelConfig → ℕ
key_length_of none = 0
key_length_of (some r) = r.key_length
