-- Numbers: how much there may be of each thing, and what serves where no row is found. Spans and moments are in milliseconds.
-- The frame limit (`max_frame`) is handed to every definition that asks it, as `limit`; the other numbers are fixed.
use Rattle.std.specs.Prelude.{ℕ, ◌^◌}

-- a moment in time: milliseconds since the clock's zero
abbrev pub Moment : Type 0
Moment = ℕ

-- a span of time: milliseconds between two moments
abbrev pub Span : Type 0
Span = ℕ

-- a frame that is sent has at most 256 bytes
abbrev pub max_frame : ℕ
max_frame = 256

-- a frame that is received has at most 4095 bytes
abbrev pub max_request : ℕ
max_request = 4095

-- at most 16 frames wait
abbrev pub max_outbox : ℕ
max_outbox = 16

-- a configuration has at most 8 sessions, 24 services, 128 identifiers and 8 security levels
abbrev pub max_sessions : ℕ
max_sessions = 8

abbrev pub max_services : ℕ
max_services = 24

abbrev pub max_dids : ℕ
max_dids = 128

abbrev pub max_levels : ℕ
max_levels = 8

-- a row's list of sessions has at most 8 entries
abbrev pub max_listed : ℕ
max_listed = 8

-- a seed or a key has at most 32 bytes
abbrev pub max_seed : ℕ
max_seed = 32

-- at most 16 subscriptions stand
abbrev pub max_periodic : ℕ
max_periodic = 16

-- the bytes that requestDownload's act may give
abbrev pub max_download : ℕ
max_download = 64

-- a time handed in is at most 2^48
abbrev pub max_time : Moment
max_time = 2 ^ 48

-- a configured span is below 2^32
abbrev pub max_span : Span
max_span = 2 ^ 32

-- these five serve where no session or level row is found
abbrev pub default_s3 : Span
default_s3 = 5000

abbrev pub default_p2 : Span
default_p2 = 50

abbrev pub default_p2_ext : Span
default_p2_ext = 5000

abbrev pub default_lockout : Span
default_lockout = 10000

abbrev pub default_max_attempts : ℕ
default_max_attempts = 3
