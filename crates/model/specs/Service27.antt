-- 27 securityAccess: an odd access type asks a seed for its level, the even one after it sends that level's key.
-- The access type is the low seven bits: the suppress bit is ignored here.
use Rattle.std.specs.Prelude.{ℕ, ◌+◌, ◌-◌, ◌%◌, min, Bool, true, false, ◌&&◌, List, [], ◌∷◌, length, nat_eq, nat_le, nat_lt}
use Rattle.std.proofs.Math.Option.{Option, some, none}
use Rattle.model.specs.Tests.{pick, first, change_first, enter}
use Rattle.model.specs.Numbers.{Moment, max_levels, max_seed}
use Rattle.model.specs.Config.{SecurityLevelConfig, find_level, max_attempts_of, lockout_of}
use Rattle.model.specs.Values.{Outcome, bytes, error, outcome}
use Rattle.model.specs.Frame.{sub_function}
use Rattle.model.specs.State.{Failed, Lock, Security, unlocked, cleared}
use Rattle.model.specs.Queue.{positive, negative}
use Rattle.model.specs.Service.{Seen, Effect, Served, says, secures, refuses, asks, part}

abbrev pub is_failed : ℕ → Failed → Bool
is_failed level e = nat_eq e.level level

abbrev pub is_lock : ℕ → Lock → Bool
is_lock level e = nat_eq e.level level

-- locked means now < until
abbrev pub holds : Moment → Option Lock → Bool
holds now none = false
holds now (some l) = nat_lt now l.until

abbrev pub locked : Security → ℕ → Moment → Bool
locked k level now = holds now (first (is_lock level) k.locks)

-- the refused keys of a level: 0 where it has no count
abbrev pub count_of : Option Failed → ℕ
count_of none = 0
count_of (some e) = e.count

abbrev pub failed_count : ℕ → List Failed → ℕ
failed_count level l = count_of (first (is_failed level) l)

-- a count goes up to 255
abbrev pub raise : Failed → Failed
raise e = record { level = e.level; count = min (e.count + 1) 255 }

abbrev pub forget : Failed → Failed
forget e = record { level = e.level; count = 0 }

abbrev pub relock : Moment → Lock → Lock
relock t l = record { level = l.level; until = t }

-- one more refused key, if the list has room
abbrev pub increment_failed : ℕ → List Failed → Option (List Failed)
increment_failed level l = enter max_levels (is_failed level) raise (record { level = level; count = 1 }) l

-- locked until a moment, if the list has room
abbrev pub set_lockout : ℕ → Moment → List Lock → Option (List Lock)
set_lockout level t l = enter max_levels (is_lock level) (relock t) (record { level = level; until = t }) l

-- a seed that awaits its key
abbrev pub seeded : Security → ℕ → List ℕ → Security
seeded k level seed = record { seed = seed; seed_level = level; failed = k.failed; locks = k.locks }

-- provider error (any byte): 0x22, the old seed kept; length other than configured: 0x22, pending cleared;
-- a seed of 32: 0x14, and cleared; else it is pending and the reply is level, seed
unfoldable pub seed_given : Seen → ℕ → SecurityLevelConfig → Outcome → Effect
seed_given v level row (error code) = says v (negative 0x22)
seed_given v level row (bytes seed) =
    pick (nat_eq (length seed) row.seed_length)
    (pick (nat_lt (length seed) max_seed) (secures v (seeded v.security level seed) (positive (level ∷ seed))) (secures v (cleared v.security) (negative 0x14)))
    (secures v (cleared v.security) (negative 0x22))

-- a level that has no row is unknown: 0x12
unfoldable pub seed_asked : Seen → ℕ → Option SecurityLevelConfig → Served
seed_asked v level none = refuses v 0x12
seed_asked v level (some row) = asks 0x27 (part 1 1 ∷ []) (seed_given v level row (outcome v.limit v.given))

-- locked 0x37
unfoldable pub request_seed : Seen → ℕ → Served
request_seed v level = pick (locked v.security level v.now) (refuses v 0x37) (seed_asked v level (find_level v.config level))

-- accepted: count 0, level held, seed cleared, access type echoed
abbrev pub accepted : Seen → ℕ → Effect
accepted v level = record {
  session = unlocked v.session level;
  security = record { seed = []; seed_level = 0; failed = change_first (is_failed level) forget v.security.failed; locks = v.security.locks };
  periodic = v.periodic;
  reply = positive ((level + 1) ∷ []);
  waits = false;
}

-- the seed cleared, with other counts and locks
abbrev pub counted : List Failed → List Lock → Security
counted f l = record { seed = []; seed_level = 0; failed = f; locks = l }

-- at max_attempts: locked and 0x36, or 0x22 if the lock list lacks room. The count has gone up all the same
unfoldable pub locked_out : Seen → List Failed → Option (List Lock) → Effect
locked_out v f none = secures v (counted f v.security.locks) (negative 0x22)
locked_out v f (some l) = secures v (counted f l) (negative 0x36)

-- refused (any error byte): the seed cleared, 0x22 if the count list lacks room, else the count goes up:
-- at max_attempts the level is locked until now plus its span, below it 0x35
unfoldable pub denied : Seen → ℕ → Option SecurityLevelConfig → Option (List Failed) → Effect
denied v level row none = secures v (cleared v.security) (negative 0x22)
denied v level row (some f) =
    pick (nat_le (max_attempts_of row) (failed_count level f))
    (locked_out v f (set_lockout level (v.now + lockout_of row) v.security.locks))
    (secures v (counted f v.security.locks) (negative 0x35))

unfoldable pub judged : Seen → ℕ → Outcome → Effect
judged v level (bytes b) = accepted v level
judged v level (error code) = denied v level (find_level v.config level) (increment_failed level v.security.failed)

-- the level is pending and its seed is not empty
abbrev pub awaits : Security → ℕ → Bool
awaits k level = nat_eq k.seed_level level && nat_le 1 (length k.seed)

-- the key has its configured length, if the level has a row
abbrev pub key_fits : ℕ → Option SecurityLevelConfig → Bool
key_fits len none = true
key_fits len (some row) = nat_eq len row.key_length

-- locked 0x37; level not pending or seed empty 0x24; key of wrong length 0x13, seed kept, nothing counted
unfoldable pub send_key : Seen → ℕ → Served
send_key v level =
    pick (locked v.security level v.now) (refuses v 0x37)
    (pick (awaits v.security level)
    (pick (key_fits (length v.payload - 1) (find_level v.config level))
    (asks 0x27 (part 1 1 ∷ part 2 (length v.payload - 1) ∷ []) (judged v level (outcome v.limit v.given)))
    (refuses v 0x13))
    (refuses v 0x24))

-- access type 0 is 0x12
unfoldable pub security_access : Seen → ℕ → Served
security_access v access =
    pick (nat_eq access 0) (refuses v 0x12) (pick (nat_eq (access % 2) 1) (request_seed v access) (send_key v (access - 1)))

-- absent is short
unfoldable pub service27 : Seen → Served
service27 v = pick (nat_lt (length v.payload) 1) (refuses v 0x13) (security_access v (sub_function v.payload))
