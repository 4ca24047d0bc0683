-- What comes of 27's act, and what is refused before the definition is asked.
use Rattle.std.specs.Prelude.{ℕ, ◌-◌, ◌%◌, Bool, ◌&&◌, nat_eq, nat_le}
use Rattle.std.proofs.Math.Option.{Option, some, none}
use Rattle.model.specs.Tests.{pick}
use Rattle.model.specs.Numbers.{Moment, max_time}
use Rattle.model.specs.Config.{Config, SecurityLevelConfig, find_level, within}
use Rattle.model.specs.Frame.{sub_function}
use Rattle.model.specs.State.{Security, security_valid}
use Rattle.model.specs.Values.{Outcome, outcome}
use Rattle.model.specs.Service.{Seen, Effect, Served, refuses}
use Rattle.model.specs.Service27.{seed_given, judged, service27}

-- every call has shown this before a service is asked: 10 and 6 come first
abbrev pub ready27 : Config → Security → Moment → Bool
ready27 c k t = within c && security_valid k && nat_le t max_time

-- where it does not hold, 27 refuses, and changes nothing
unfoldable pub access27 : Seen → Served
access27 v = pick (ready27 v.config v.security v.now) (service27 v) (refuses v 0x22)

-- a level's row, and one of zeros where it has none: no act is asked then
abbrev pub row_or : Option SecurityLevelConfig → SecurityLevelConfig
row_or none = record { level = 0; max_attempts = 0; lockout = 0; seed_length = 0; key_length = 0 }
row_or (some row) = row

-- a seed given, or a key judged
abbrev pub outcome27 : Seen → ℕ → Outcome → Effect
outcome27 v access o = pick (nat_eq (access % 2) 1) (seed_given v access (row_or (find_level v.config access)) o) (judged v (access - 1) o)

abbrev pub later_seed : ℕ → Seen → Effect
later_seed level v = seed_given v level (row_or (find_level v.config level)) (outcome v.limit v.given)

abbrev pub later_key : ℕ → Seen → Effect
later_key level v = judged v level (outcome v.limit v.given)

abbrev pub later27 : Seen → Effect
later27 v = outcome27 v (sub_function v.payload) (outcome v.limit v.given)
