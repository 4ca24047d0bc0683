-- A valid state by its parts, and what a configuration that keeps the numbers says of the spans that are looked up.
use Prim.Native.Nat.{ℕ, ◌+◌, ◌≤◌, ◌<◌}
use mathlib.Core.Path.{◌≡◌}
use mathlib.Core.Bool.{Bool, true, ◌&&◌}
use native.Mathlib.Omega.{arith}
use mathlib.Core.List.{List}
use lib.ListN.{length}
use lib.Dec.{leb, ltb, lit<}
use borrow.Author.Tests.{ltb-true, le-leb}
use Rattle.model.specs.Tests.{all}
use Rattle.model.specs.Numbers.{Moment, Span, max_time, max_periodic, max_outbox, max_span, max_sessions, max_services, max_dids, max_levels, max_listed, max_seed}
use Rattle.model.specs.Config.{Config, SessionConfig, DidConfig, SecurityLevelConfig, is_session, is_did, is_level, find_session, find_did, find_level, p2_ext_of, min_interval_of, lockout_of, session_within, service_within, did_within, level_within, within, table_within}
use Rattle.model.specs.Frame.{Frame}
use Rattle.model.specs.State.{Subscription, State, valid, moment_valid, security_valid, subscription_valid, pending_valid, frame_valid}
use Rattle.model.proofs.Laws.{both, left, right, within_all}
use Rattle.model.proofs.FirstRow.{first_or}

-- a table of subscriptions keeps the numbers
abbrev pub Subscribed : List Subscription → Type 0
Subscribed t = table_within max_periodic subscription_valid t ≡ true

-- a queue keeps the numbers
abbrev pub Queued : ℕ → List Frame → Type 0
Queued limit q = table_within max_outbox (frame_valid limit) q ≡ true

-- the six parts of a valid state
pub record Valid (limit : ℕ) (s : State) : Type 0 where
  pub config : within s.config ≡ true
  pub last_rx : moment_valid s.session.last_rx ≡ true
  pub security : security_valid s.security ≡ true
  pub periodic : Subscribed s.periodic
  pub pending : pending_valid s.pending ≡ true
  pub queue : Queued limit s.queue

-- a state that has the six parts is valid
pub parts_valid : (limit : ℕ) (s : State) → Valid limit s → valid limit s ≡ true
unfolding valid
parts_valid limit s h = both (both (both (both (both h.config h.last_rx) h.security) h.periodic) h.pending) h.queue

-- a valid state has them
pub valid_parts : (limit : ℕ) (s : State) → valid limit s ≡ true → Valid limit s
unfolding valid
valid_parts limit s h = record {
  config = left a b hb;
  last_rx = right a b hb;
  security = right (a && b) c hc;
  periodic = right (a && b && c) d hd;
  pending = right (a && b && c && d) e he;
  queue = right (a && b && c && d && e) f h;
}
  where
    a : Bool
    a = within s.config

    b : Bool
    b = moment_valid s.session.last_rx

    c : Bool
    c = security_valid s.security

    d : Bool
    d = table_within max_periodic subscription_valid s.periodic

    e : Bool
    e = pending_valid s.pending

    f : Bool
    f = table_within max_outbox (frame_valid limit) s.queue

    he : (a && b && c && d && e) ≡ true
    he = left (a && b && c && d && e) f h

    hd : (a && b && c && d) ≡ true
    hd = left (a && b && c && d) e he

    hc : (a && b && c) ≡ true
    hc = left (a && b && c) d hd

    hb : (a && b) ≡ true
    hb = left (a && b) c hc

-- the rows of sessions, identifiers and levels keep the numbers
pub record Rows (c : Config) : Type 0 where
  pub sessions : all session_within c.sessions ≡ true
  pub dids : all did_within c.dids ≡ true
  pub levels : all level_within c.levels ≡ true

-- a configuration within the numbers has such rows
pub within-rows : (c : Config) → within c ≡ true → Rows c
unfolding within
within-rows c h = record {
  sessions = within_all max_sessions session_within c.sessions (left a b hb);
  dids = within_all max_dids did_within c.dids (right (a && b) d hd);
  levels = within_all max_levels level_within c.levels (right (a && b && d) e h);
}
  where
    a : Bool
    a = table_within max_sessions session_within c.sessions

    b : Bool
    b = table_within max_services service_within c.services

    d : Bool
    d = table_within max_dids did_within c.dids

    e : Bool
    e = table_within max_levels level_within c.levels

    hd : (a && b && d) ≡ true
    hd = left (a && b && d) e h

    hb : (a && b) ≡ true
    hb = left (a && b) d hd

-- P2* of a session is a span below 2^32, whether a row says it or the default serves
pub p2_ext-below : (c : Config) (x : ℕ) → within c ≡ true → p2_ext_of (find_session c x) < max_span
p2_ext-below c x h = first_or (λ o. p2_ext_of o < max_span) (is_session x) session_within c.sessions (within-rows c h).sessions (lit< tt) row
  where
    row : (r : SessionConfig) → session_within r ≡ true → r.p2_ext < max_span
    row r e =
        ltb-true r.p2_ext max_span (right (ltb r.p2 max_span) (ltb r.p2_ext max_span)
        (left (ltb r.p2 max_span && ltb r.p2_ext max_span) (ltb r.s3 max_span) e))

-- so is the minimum interval of an identifier
pub min_interval-below : (c : Config) (x : ℕ) → within c ≡ true → min_interval_of (find_did c x) < max_span
min_interval-below c x h = first_or (λ o. min_interval_of o < max_span) (is_did x) did_within c.dids (within-rows c h).dids (lit< tt) row
  where
    row : (r : DidConfig) → did_within r ≡ true → r.min_interval < max_span
    row r e = ltb-true r.min_interval max_span (right (leb (length r.readable_in) max_listed && leb (length r.writable_in) max_listed) (ltb r.min_interval max_span) e)

-- and so is the lockout of a level
pub lockout-below : (c : Config) (x : ℕ) → within c ≡ true → lockout_of (find_level c x) < max_span
lockout-below c x h = first_or (λ o. lockout_of o < max_span) (is_level x) level_within c.levels (within-rows c h).levels (lit< tt) row
  where
    row : (r : SecurityLevelConfig) → level_within r ≡ true → r.lockout < max_span
    row r e =
        ltb-true r.lockout max_span (left (ltb r.lockout max_span) (leb r.seed_length max_seed)
        (left (ltb r.lockout max_span && leb r.seed_length max_seed) (leb r.key_length max_seed) e))

-- a time handed in plus a span is a moment that a state may hold
pub later-valid : (now : Moment) (span : Span) → now ≤ max_time → span < max_span → moment_valid (now + span) ≡ true
later-valid now span h k = le-leb (now + span) (max_time + max_span) (omega arith)

-- and so is the time itself
pub now-valid : (now : Moment) → now ≤ max_time → moment_valid now ≡ true
now-valid now h = le-leb now (max_time + max_span) (omega arith)
