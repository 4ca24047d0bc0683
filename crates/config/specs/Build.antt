-- What the builders make: one more row at the end, or the overfull configuration where that would not keep the numbers.
use Rattle.std.specs.Prelude.{ℕ, ◌+◌, ◌%◌, ◌^◌, List, [], ◌∷◌, ◌++◌, length, get_or, set, replicate}
use Rattle.std.proofs.Math.Seq.{paste}
use Rattle.model.specs.Tests.{pick}
use Rattle.model.specs.Config.{SessionConfig, ServiceConfig, DidConfig, SecurityLevelConfig, Config, within}
use Rattle.uds.specs.Table.{tab}
use Rattle.uds.specs.Rows.{entry_of}
use Rattle.uds.specs.declared.rows.SessionList.{SessionList}
use Rattle.uds.specs.declared.rows.SessionConfig as Session
use Rattle.uds.specs.declared.rows.ServiceConfig as Service
use Rattle.uds.specs.declared.rows.DidConfig as Did
use Rattle.uds.specs.declared.rows.SecurityLevelConfig as Level

-- addresses and no rows
abbrev pub bare : ℕ → ℕ → Config
bare physical functional = record { physical = physical; functional = functional; sessions = []; services = []; dids = []; levels = [] }

-- nine sessions of nothing: one more than there may be
abbrev pub no_session : ℕ → SessionConfig
no_session i = record { session_type = 0; p2 = 0; p2_ext = 0; s3 = 0 }

abbrev pub overfull : Config
overfull = record { physical = 0; functional = 0; sessions = tab no_session 0 9; services = []; dids = []; levels = [] }

-- a configuration that keeps the numbers is taken as it is
abbrev pub settled : Config → Config
settled c = pick (within c) c overfull

-- one more row
abbrev pub add_session : Config → SessionConfig → Config
add_session c r = record { physical = c.physical; functional = c.functional; sessions = c.sessions ++ (r ∷ []); services = c.services; dids = c.dids; levels = c.levels }

abbrev pub add_service : Config → ServiceConfig → Config
add_service c r = record { physical = c.physical; functional = c.functional; sessions = c.sessions; services = c.services ++ (r ∷ []); dids = c.dids; levels = c.levels }

abbrev pub add_did : Config → DidConfig → Config
add_did c r = record { physical = c.physical; functional = c.functional; sessions = c.sessions; services = c.services; dids = c.dids ++ (r ∷ []); levels = c.levels }

abbrev pub add_level : Config → SecurityLevelConfig → Config
add_level c r = record { physical = c.physical; functional = c.functional; sessions = c.sessions; services = c.services; dids = c.dids; levels = c.levels ++ (r ∷ []) }

-- a number's low 32 bits
abbrev pub low : ℕ → ℕ
low x = x % 2 ^ 32

-- the words of a list, before others: its count and eight sessions
abbrev pub list_words : SessionList → List ℕ → List ℕ
list_words l rest =
    low l.count
    ∷ entry_of l 0
    ∷ entry_of l 1
    ∷ entry_of l 2
    ∷ entry_of l 3
    ∷ entry_of l 4
    ∷ entry_of l 5
    ∷ entry_of l 6
    ∷ entry_of l 7
    ∷ rest

-- the words of a row
abbrev pub session_row : Session.SessionConfig → List ℕ
session_row r = r.session_type ∷ low r.p2_timeout.0 ∷ low r.p2_extended_timeout.0 ∷ low r.s3_timeout.0 ∷ []

abbrev pub service_row : Service.ServiceConfig → List ℕ
service_row r = r.service_id ∷ list_words r.supported_in []

abbrev pub did_row : Did.DidConfig → List ℕ
did_row r = r.identifier ∷ r.security_level ∷ low r.min_periodic_interval.0 ∷ list_words r.readable_in (list_words r.writable_in [])

abbrev pub level_row : Level.SecurityLevelConfig → List ℕ
level_row r = r.level ∷ r.max_attempts ∷ low r.lockout_duration.0 ∷ low r.seed_length ∷ low r.key_length ∷ []

-- an image with a row more: the row's words from a place on, and the table's count gone up
abbrev pub row_put : List ℕ → ℕ → ℕ → List ℕ → List ℕ
row_put w counter at row = paste (set w counter (get_or w counter 0 + 1)) at row (length row)

-- the overfull configuration's image
abbrev pub overfull_words : List ℕ
overfull_words = set (replicate 3006 0) 2 9
