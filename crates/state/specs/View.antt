-- From the program's records, and from what is lent beside them, to the definition's state.
use Rattle.std.specs.Prelude.{ℕ, ◌+◌, ◌≡◌, Bool, true, false, ◌&&◌, nat_eq, List}
use Rattle.std.proofs.Math.Option.{Option, some, none}
use Rattle.model.specs.Tests.{pick}
use Rattle.model.specs.Numbers.{Moment, max_frame}
use Rattle.model.specs.Config.{find_session, p2_ext_of}
use Rattle.model.specs.State as Model
use Rattle.model.specs.State.{Session, Security, Subscription, Step, step, cleared, received}
use Rattle.model.specs.Reply as Rules
use Rattle.model.specs.Service.{apply}
use Rattle.model.specs.Service as Service
use Rattle.uds.specs.Clock.{starts}
use Rattle.uds.specs.Result.{result_of}
use Rattle.config.specs.View.{config_of}
use Rattle.queue.specs.View.{queue_of, reply_of, mode_of}
use Rattle.queue.specs.declared.reply.Asker.{Asker}
use Rattle.queue.specs.declared.reply.Outbox.{Outbox}
use Rattle.queue.specs.declared.reply.Reply.{Reply}
use Rattle.queue.specs.declared.reply.Reply.TheVariants.{Silent, Positive, Negative, Always, Pends}
use Rattle.periodic.specs.View.{table_of}
use Rattle.security.specs.View.{security_of, ClearsIf}
use Rattle.state.specs.declared.SessionState.{SessionState}
use Rattle.state.specs.declared.PendingRequest.{PendingRequest}
use Rattle.state.specs.declared.State.{State}
use Rattle.state.specs.declared.apply.Effect.{Effect}
use Rattle.state.specs.declared.apply.Answer.{Answer}
use Rattle.state.specs.declared.apply.Said.{Said}

abbrev pub session_of : SessionState → Session
session_of a = record { session_type = a.session_type; level = a.level; last_rx = a.last_rx.0 }

abbrev pub pending_of : PendingRequest → Option Model.PendingRequest
pending_of p = pick p.on (some (record { dst = p.dst; sid = p.sid; deadline = p.deadline.0 })) none

-- the parts of a state that a reply may look at or change, and any session record, security record and table of subscriptions beside them
abbrev pub beside : List ℕ → Session → Security → List Subscription → PendingRequest → Bool → ℕ → List ℕ → List ℕ → Model.State
beside config session security periodic pending functional frames heads room = record {
  config = config_of config;
  session = session;
  security = security;
  periodic = periodic;
  pending = pending_of pending;
  mode = mode_of functional;
  queue = queue_of frames heads room;
}

-- the state and what is lent: the configuration, the security record, the subscriptions, the frames' heads and the room
abbrev pub state_of : List ℕ → State → List ℕ → List ℕ → List ℕ → List ℕ → Model.State
state_of config s k subs heads room = beside config (session_of s.session) (security_of k) (table_of s.subscriptions subs) s.pending s.functional s.frames heads room

abbrev pub step_of : List ℕ → Answer → List ℕ → List ℕ → List ℕ → List ℕ → Step
step_of config a k subs heads room = step a.result (state_of config a.state k subs heads room)

abbrev pub pends_of : Reply → Bool
pends_of Silent = false
pends_of (Positive len) = false
pends_of (Negative code) = false
pends_of (Always code) = false
pends_of Pends = true

-- when a reply is made: now, but that 0x78 falls due again on the clock
abbrev pub made_at : List ℕ → ℕ → Moment → Moment
made_at config session t = starts t (p2_ext_of (find_session (config_of config) session))

-- a request that becomes pending in a session: the deadline is P2* later, on the clock
abbrev pub awaited : List ℕ → ℕ → ℕ → ℕ → Moment → Option Model.PendingRequest
awaited config session to sid t = some (record { dst = to; sid = sid; deadline = made_at config session t + p2_ext_of (find_session (config_of config) session) })

-- a reply carried out in a session, whatever else the state holds: the pending request that is left, the result, and how many frames wait
pub record Replies (config : List ℕ) (session : ℕ) (pending : PendingRequest) (frames : ℕ) (functional : Bool) (heads room : List ℕ) (to sid t : ℕ) (reply : Reply) (pending' : PendingRequest) (result frames' : ℕ) (heads' room' : List ℕ) : Type 0 where
  pub step : (a : Session) (k : Security) (table : List Subscription) → a.session_type ≡ session
      → step result (beside config a k table pending' functional frames' heads' room')
      ≡ Rules.replied max_frame (beside config a k table pending functional frames heads room) to sid (made_at config session t) (reply_of reply frames room)

-- the same, of an outbox
abbrev pub RepliesIn : List ℕ → ℕ → PendingRequest → Outbox → Asker → ℕ → Reply → Said → Outbox → Type 0
RepliesIn config session pending o asker t reply r o' =
    Replies config session pending o.count asker.functional o.heads.now o.room.now asker.to asker.sid t reply r.pending (result_of r.done) o'.count o'.heads.now o'.room.now

-- what a service wants, of a request that was received at t and whose reply stands in the free place of a room
abbrev pub effect_of : Effect → Moment → List ℕ → List ℕ → ℕ → List ℕ → Service.Effect
effect_of e t k subs frames room = record {
  session = record { session_type = e.session; level = e.level; last_rx = t };
  security = pick e.clears_seed (cleared (security_of k)) (security_of k);
  periodic = table_of e.subscriptions subs;
  reply = reply_of e.reply frames room;
  waits = e.waits;
}

-- a change is made, unless it waits and the reply met a result
abbrev pub is_made : Effect → Answer → Bool
is_made e r = pick e.waits (nat_eq r.result 0) true

-- a request received and an effect carried out, whatever the subscriptions; the reply is made in the session that the effect opens, unless the
-- change waits; and of a seed that is cleared no byte is left
pub record Applies (config : List ℕ) (s : State) (k heads room : List ℕ) (to sid t : ℕ) (functional : Bool) (e : Effect) (r : Answer) (k' heads' room' : List ℕ) : Type 0 where
  pub step : (subs : List ℕ) → step_of config r k' subs heads' room'
      ≡ apply max_frame (received (state_of config s k subs heads room) (mode_of functional) t) to sid (made_at config (pick e.waits s.session.session_type e.session) t) (effect_of e t k subs s.frames room)
  pub words : ClearsIf k (is_made e r && e.clears_seed) k'
