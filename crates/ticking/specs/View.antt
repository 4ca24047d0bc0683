-- What each step of a tick leaves, whatever else the state holds.
use Rattle.std.specs.Prelude.{ℕ, ◌≤◌, ◌<◌, ◌≡◌, Bool, false, ◌&&◌, List, [], ◌∷◌, ◌++◌, nat_eq, nat_le}
use Rattle.std.proofs.Math.Option.{Option, some, none}
use Rattle.model.specs.Tests.{pick}
use Rattle.model.specs.Numbers.{Moment, max_frame, max_periodic}
use Rattle.model.specs.Values.{Table, value}
use Rattle.model.specs.Frame.{Frame}
use Rattle.model.specs.State.{Session, Security, Subscription, State, Step, step, fresh_state, fresh_security, with_records}
use Rattle.model.specs.State as Model
use Rattle.model.specs.Reply.{begun}
use Rattle.model.specs.Tick.{expired, s3, Passed, kept, due_sent}
use Rattle.std.specs.Prelude.{Result, Ok, Err}
use Rattle.uds.specs.Clock.{starts}
use Rattle.uds.specs.Result.{number_of}
use Rattle.config.specs.View.{config_of}
use Rattle.queue.specs.View.{queue_of}
use Rattle.periodic.specs.View.{entry_at, table_of}
use Rattle.security.specs.View.{security_of, ClearsIf}
use Rattle.state.specs.View.{session_of, pending_of, beside, made_at}
use Rattle.state.specs.declared.SessionState.{SessionState}
use Rattle.state.specs.declared.PendingRequest.{PendingRequest}
use Rattle.queue.specs.declared.reply.Outbox.{Outbox}
use Rattle.ticking.specs.declared.Unsent.{Unsent}

-- S3 asks the configuration and the session alone
abbrev pub expired_of : List ℕ → SessionState → Moment → Bool
expired_of config session t = expired (with_records (fresh_state (config_of config)) (session_of session) fresh_security []) t

-- the session and the security record after S3; and of a seed that is cleared no byte is left
pub record Lapses (config : List ℕ) (session : SessionState) (k : List ℕ) (t : Moment) (r : SessionState) (k' : List ℕ) : Type 0 where
  pub state : (table : List Subscription) (pending : PendingRequest) (functional : Bool) (frames : ℕ) (heads room : List ℕ)
      → beside config (session_of r) (security_of k') table pending functional frames heads room ≡ s3 (beside config (session_of session) (security_of k) table pending functional frames heads room) t
  pub words : ClearsIf k (expired_of config session t) k'

-- a request is pending, and its deadline has come
abbrev pub due_of : Option Model.PendingRequest → Moment → Bool
due_of none t = false
due_of (some p) t = nat_le p.deadline t

-- the definition's `refreshed`, where 0x78 falls due again at a moment that is told apart from now
abbrev pub refreshed_at : State → Moment → Moment → Option Model.PendingRequest → Step
refreshed_at s now made none = step 0 s
refreshed_at s now made (some p) = pick (nat_le p.deadline now) (begun s p.dst p.sid made) (step 0 s)

-- the pending request refreshed in a session: 0x78 falls due again on the clock; the pending request that is left, the result, and how many frames wait
pub record Refreshes (config : List ℕ) (session : ℕ) (pending : PendingRequest) (frames : ℕ) (heads room : List ℕ) (t : Moment) (pending' : PendingRequest) (result frames' : ℕ) (heads' room' : List ℕ) : Type 0 where
  pub step : (a : Session) (k : Security) (table : List Subscription) (functional : Bool) → a.session_type ≡ session
      → step result (beside config a k table pending' functional frames' heads' room')
      ≡ refreshed_at (beside config a k table pending functional frames heads room) t (made_at config session t) (pending_of pending)

-- a due entry is sent, and advanced on the clock
abbrev pub due_one : ℕ → Moment → Table → Passed → Subscription → Passed
due_one limit now t a e = due_sent limit (starts now e.interval) a e (value limit t e.identifier)

-- the definition's `pass_one` and `pass_all` with it
abbrev pub pass_one_at : ℕ → Moment → Table → Passed → Subscription → Passed
pass_one_at limit now t a e = pick (nat_eq a.result 0 && nat_le e.next now) (due_one limit now t a e) (kept a e)

abbrev pub pass_all_at : ℕ → Moment → Table → List Subscription → Passed → Passed
pass_all_at limit now t [] a = a
pass_all_at limit now t (e ∷ es) a = pass_all_at limit now t es (pass_one_at limit now t a e)

-- the periodic step so far, with no result met
abbrev pub so_far : List Subscription → List Frame → Passed
so_far es q = record { result = 0; err = 0; entries = es; queue = q }

-- what the due subscriptions leave in numbers: how many frames wait, the result, and the error byte that comes with 8
pub record Sent : Type 0 where
  pub frames : ℕ
  pub result : ℕ
  pub err : ℕ

abbrev pub sent_of : Result (Unit {0}) Unsent → Outbox → Sent
sent_of (Ok done) o = record { frames = o.count; result = 0; err = 0 }
sent_of (Err unsent) o = record { frames = o.count; result = number_of unsent.why; err = unsent.err }

abbrev pub passed_of : Sent → List Subscription → List ℕ → List ℕ → Passed
passed_of r es heads room = record { result = r.result; err = r.err; entries = es; queue = queue_of r.frames heads room }

-- one due entry after any others, and those as they were; no error byte comes with 0
pub record Goes (subs : List ℕ) (i frames : ℕ) (heads room : List ℕ) (t : Moment) (table : Table) (r : Sent) (subs' heads' room' : List ℕ) : Type 0 where
  pub passed : (es : List Subscription) → passed_of r (es ++ (entry_at subs' i ∷ [])) heads' room' ≡ due_one max_frame t table (so_far es (queue_of frames heads room)) (entry_at subs i)
  pub clean : r.result ≡ 0 → r.err ≡ 0
  pub others : (j : ℕ) → (j ≡ i → ⊥) → entry_at subs' j ≡ entry_at subs j

-- the due entries; under a count that no table has all is as it was
pub record Sends (subs : List ℕ) (count frames : ℕ) (heads room : List ℕ) (t : Moment) (table : Table) (r : Sent) (subs' heads' room' : List ℕ) : Type 0 where
  pub passed : count ≤ max_periodic → passed_of r (table_of count subs') heads' room' ≡ pass_all_at max_frame t table (table_of count subs) (so_far [] (queue_of frames heads room))
  pub beyond : max_periodic < count → (r ≡ record { frames = frames; result = 0; err = 0 }) × (subs' ≡ subs) × (heads' ≡ heads) × (room' ≡ room)
