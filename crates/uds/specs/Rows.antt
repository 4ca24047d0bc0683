-- The program's records as the definition's rows.
use Rattle.std.specs.Prelude.{ℕ, true, false, List, length, get_or}
use Rattle.model.specs.Numbers.{default_p2, default_p2_ext, default_s3}
use Rattle.model.specs.Config as Model
use Rattle.uds.specs.Table.{tab}
use Rattle.uds.specs.declared.clock.Duration.{Duration}
use Rattle.uds.specs.declared.rows.SessionList.{SessionList}
use Rattle.uds.specs.declared.rows.SessionConfig.{SessionConfig}
use Rattle.uds.specs.declared.rows.ServiceConfig.{ServiceConfig}
use Rattle.uds.specs.declared.rows.DidConfig.{DidConfig}
use Rattle.uds.specs.declared.rows.SecurityLevelConfig.{SecurityLevelConfig}

-- as many sessions as the count says: past the eighth they are 0
abbrev pub entry_of : SessionList → ℕ → ℕ
entry_of l k = get_or l.sessions k 0

abbrev pub list_of : SessionList → List ℕ
list_of l = tab (entry_of l) 0 l.count

-- what is held of a slice: its length, and its first eight sessions, 0 where there are fewer
abbrev pub held_of : List ℕ → SessionList
held_of s = record { sessions = tab (λ (k : ℕ). get_or s k 0) 0 8; count = length s }

abbrev pub session_of : SessionConfig → Model.SessionConfig
session_of r = record { session_type = r.session_type; p2 = r.p2_timeout.0; p2_ext = r.p2_extended_timeout.0; s3 = r.s3_timeout.0 }

abbrev pub service_of : ServiceConfig → Model.ServiceConfig
service_of r = record { service_id = r.service_id; supported_in = list_of r.supported_in }

abbrev pub did_of : DidConfig → Model.DidConfig
did_of r = record {
  identifier = r.identifier;
  readable_in = list_of r.readable_in;
  writable_in = list_of r.writable_in;
  level = r.security_level;
  min_interval = r.min_periodic_interval.0;
}

abbrev pub level_of : SecurityLevelConfig → Model.SecurityLevelConfig
level_of r = record {
  level = r.level;
  max_attempts = r.max_attempts;
  lockout = r.lockout_duration.0;
  seed_length = r.seed_length;
  key_length = r.key_length;
}

-- a session with the default spans
abbrev pub preset_session : ℕ → Model.SessionConfig
preset_session x = record { session_type = x; p2 = default_p2; p2_ext = default_p2_ext; s3 = default_s3 }

-- a service that is allowed in these sessions, with a level that no rule reads
abbrev pub service_with : ℕ → List ℕ → ℕ → ServiceConfig
service_with x allowed level = record { service_id = x; supported_in = held_of allowed; security_level = level }

-- an identifier that is read and written in these sessions, without a level, at most every 50 ms
abbrev pub did_with : ℕ → List ℕ → List ℕ → DidConfig
did_with x readable writable = record {
  identifier = x;
  readable_in = held_of readable;
  writable_in = held_of writable;
  security_level = 0;
  periodic = false;
  min_periodic_interval = record { 0 = 50 };
}

-- the same at another interval, and at another level
abbrev pub at_least : DidConfig → Duration → DidConfig
at_least r interval = record {
  identifier = r.identifier;
  readable_in = r.readable_in;
  writable_in = r.writable_in;
  security_level = r.security_level;
  periodic = true;
  min_periodic_interval = interval;
}

abbrev pub secured_by : DidConfig → ℕ → DidConfig
secured_by r level = record {
  identifier = r.identifier;
  readable_in = r.readable_in;
  writable_in = r.writable_in;
  security_level = level;
  periodic = r.periodic;
  min_periodic_interval = r.min_periodic_interval;
}
