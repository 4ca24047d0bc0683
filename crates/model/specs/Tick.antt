-- Tick: S3, pending, periodic.
use Rattle.std.specs.Prelude.{ℕ, ◌+◌, ◌-◌, ◌%◌, Bool, not, ◌&&◌, List, [], ◌∷◌, ◌++◌, nat_eq, nat_le, nat_lt}
use Rattle.std.proofs.Math.Option.{Option, some, none}
use Rattle.model.specs.Tests.{pick}
use Rattle.model.specs.Numbers.{Moment, max_time}
use Rattle.model.specs.Config.{find_session, s3_of}
use Rattle.model.specs.Values.{Outcome, bytes, error, Table, value}
use Rattle.model.specs.Frame.{Frame}
use Rattle.model.specs.State.{Subscription, PendingRequest, State, Step, step, valid, with_records, opened, cleared}
use Rattle.model.specs.Queue.{QueueStep, sent}
use Rattle.model.specs.Reply.{begun}

-- S3: the session is not 1 and now minus last_rx is above s3 (a clock that went back is not above)
abbrev pub expired : State → Moment → Bool
expired s now = not (nat_eq s.session.session_type 1) && nat_lt (s3_of (find_session s.config s.session.session_type)) (now - s.session.last_rx)

-- session 1, no level held, the seed cleared; counts, locks and subscriptions stay
unfoldable pub s3 : State → Moment → State
s3 s now = pick (expired s now) (with_records s (opened s.session 1) (cleared s.security) s.periodic) s

-- at now >= deadline the request becomes pending anew: the deadline becomes now plus P2* of the session, then 0x78 is queued
unfoldable pub refreshed : State → Moment → Option PendingRequest → Step
refreshed s now none = step 0 s
refreshed s now (some p) = pick (nat_le p.deadline now) (begun s p.dst p.sid now) (step 0 s)

-- the periodic step so far: its result and error byte, the entries passed, the queue
pub record Passed : Type 0 where
  pub result : ℕ
  pub err : ℕ
  pub entries : List Subscription
  pub queue : List Frame

-- an entry passed as it stands
abbrev pub kept : Passed → Subscription → Passed
kept a e = record { result = a.result; err = a.err; entries = a.entries ++ (e ∷ []); queue = a.queue }

-- an entry that met a result: it stands, and so will those after it
abbrev pub stopped : Passed → Subscription → ℕ → ℕ → Passed
stopped a e n err = record { result = n; err = err; entries = a.entries ++ (e ∷ []); queue = a.queue }

-- sending sets next to now plus interval
abbrev pub advanced : Moment → Subscription → Subscription
advanced now e = record { identifier = e.identifier; client = e.client; interval = e.interval; next = now + e.interval }

-- an entry whose frame was queued: it is advanced
abbrev pub went : Passed → Moment → Subscription → List Frame → Passed
went a now e q = record { result = a.result; err = a.err; entries = a.entries ++ (advanced now e ∷ []); queue = q }

-- a due entry goes on by what became of its frame: sent, or met by the frame's result
unfoldable pub passed : Moment → Passed → Subscription → QueueStep → Passed
passed now a e p = pick (nat_eq p.result 0) (went a now e p.queue) (stopped a e p.result 0)

-- 8 where the value is an error; else the identifier's low byte and the value are a frame to its client
unfoldable pub due_sent : ℕ → Moment → Passed → Subscription → Outcome → Passed
due_sent limit now a e (error code) = stopped a e 8 code
due_sent limit now a e (bytes b) = passed now a e (sent limit a.queue e.client (e.identifier % 256 ∷ b))

-- an entry is due at now >= next; after a result other than 0 the later ones stand
unfoldable pub pass_one : ℕ → Moment → Table → Passed → Subscription → Passed
pass_one limit now t a e = pick (nat_eq a.result 0 && nat_le e.next now) (due_sent limit now a e (value limit t e.identifier)) (kept a e)

-- due entries in table order
abbrev pub pass_all : ℕ → Moment → Table → List Subscription → Passed → Passed
pass_all limit now t [] a = a
pass_all limit now t (e ∷ es) a = pass_all limit now t es (pass_one limit now t a e)

-- a tick's result, the error byte that comes with 8 (else 0), and the state
pub record Ticked : Type 0 where
  pub err : ℕ
  pub step : Step

-- the entries and the queue taken into the state
abbrev pub with_passed : State → Passed → State
with_passed s a = record { config = s.config; session = s.session; security = s.security; periodic = a.entries; pending = s.pending; mode = s.mode; queue = a.queue }

abbrev pub dispatched : State → Passed → Ticked
dispatched s a = record { err = a.err; step = step a.result (with_passed s a) }

-- at the start no entry is passed
abbrev pub begins : State → Passed
begins s = record { result = 0; err = 0; entries = []; queue = s.queue }

abbrev pub periodic : ℕ → Moment → Table → State → Ticked
periodic limit now t s = dispatched s (pass_all limit now t s.periodic (begins s))

-- result 3 of the pending step ends the tick
unfoldable pub then_periodic : ℕ → Moment → Table → Step → Ticked
then_periodic limit now t p = pick (nat_eq p.result 0) (periodic limit now t p.state) (record { err = 0; step = p })

abbrev pub ticked : ℕ → State → Moment → Table → Ticked
ticked limit s now t = then_periodic limit now t (refreshed (s3 s now) now s.pending)

-- 10, then 6
unfoldable pub tick : ℕ → State → Moment → Table → Ticked
tick limit s now t = pick (valid limit s) (pick (nat_le now max_time) (ticked limit s now t) (record { err = 0; step = step 6 s })) (record { err = 0; step = step 10 s })
