-- Runs of the code, by either door: a row of calls, each with what is held before and after it and with what it showed, that meet the promise of the
-- function that was called. What such a run shows, and what it leaves, is what the definition's history says.
use Prim.Native.Nat.{ℕ}
use mathlib.Core.Path.{◌≡◌, refl, ap, sym, ◌∙◌}
use mathlib.Core.List.{List, [], ◌∷◌}
use Rattle.model.specs.Numbers.{max_frame}
use Rattle.model.specs.State as Model
use Rattle.model.specs.Service.{no_act}
use Rattle.model.specs.History.{Call, requests, questions, ticks, completes, fails, drains, Shown, Done, done_step, done_answer, done_asked, done_tick, done_drain, call, run, shows}
use Rattle.uds.specs.Values.{table_of}
use Rattle.uds.specs.declared.clock.Instant.{Instant}
use Rattle.state.specs.View.{state_of}
use Rattle.state.specs.declared.State.{State}
use Rattle.state.specs.declared.apply.Answer.{Answer}
use Rattle.service.specs.Act.{act_of}
use Rattle.calls.specs.Request.{request_of}
use Rattle.calls.specs.View.{inbound_of}
use Rattle.calls.specs.declared.drain.Drained.{Drained}
use Rattle.calls.specs.declared.question.Asked.{Asked}
use Rattle.calls.specs.declared.request.Answered.{Answered}
use Rattle.calls.specs.declared.tick.Ticked.{Ticked}
use Rattle.calls.proofs.drain.drain.Reads as lent-drain
use Rattle.calls.proofs.pending.complete.Reads as lent-complete
use Rattle.calls.proofs.pending.fail.Reads as lent-fail
use Rattle.calls.proofs.question.question.Reads as lent-question
use Rattle.calls.proofs.request.request.Reads as lent-request
use Rattle.calls.proofs.tick.tick.Reads as lent-tick
use Rattle.server.specs.declared.drain.ServerDrained.{ServerDrained}
use Rattle.server.specs.declared.fresh.Server.{Server}
use Rattle.server.specs.declared.pending.ServerAnswer.{ServerAnswer}
use Rattle.server.specs.declared.request.ServerAnswered.{ServerAnswered}
use Rattle.server.specs.declared.tick.ServerTicked.{ServerTicked}
use Rattle.server.proofs.fresh.Server.drain.Reads as drain
use Rattle.server.proofs.fresh.Server.complete.Reads as complete
use Rattle.server.proofs.fresh.Server.fail.Reads as fail
use Rattle.server.proofs.fresh.Server.question.Reads as question
use Rattle.server.proofs.fresh.Server.request.Reads as request
use Rattle.server.proofs.fresh.Server.tick.Reads as tick

-- what is held: the state, and all that a call is lent
pub record Held : Type 0 where
  pub config : List ℕ
  pub state : State
  pub security : List ℕ
  pub subscriptions : List ℕ
  pub heads : List ℕ
  pub room : List ℕ

abbrev pub held_of : Held → Model.State
held_of m = state_of m.config m.state m.security m.subscriptions m.heads m.room

-- by a server, or beside the lent arrays
abbrev pub within : Server → Held
within v = record { config = v.config; state = v.state; security = v.security; subscriptions = v.subscriptions; heads = v.heads; room = v.room }

abbrev pub beside : List ℕ → State → List ℕ → List ℕ → List ℕ → List ℕ → Held
beside config s k subs heads room = record { config = config; state = s; security = k; subscriptions = subs; heads = heads; room = room }

-- what the answers show
abbrev pub shown : ℕ → Shown
shown n = record { result = n; err = 0; act = no_act; count = 0; buffer = [] }

-- one call that meets the promise of its function: its arguments, what it answers (`r`), and what is left of those that were lent (`e`, in their order)
pub data Does : Held → Call → Shown → Held → Type 0 where
  -- by value
  requested : (κs : _) (v : Server) (t : Instant) (src dst : ℕ) (frame : _) (err : ℕ) (given values pool : _) (r : ServerAnswered) (e : _) → request.Post κs (v, (t, (src, (dst, (frame, (err, (given, (values, (pool, tt))))))))) r e
      → Does (within v) (requests (request_of t.0 src dst frame.now err given.now values.now pool.now)) (record { result = r.result; err = 0; act = act_of r.act; count = 0; buffer = [] }) (within r.server)
  questioned : (κs : _) (v : Server) (t : Instant) (src dst : ℕ) (frame : _) (r : Asked) (e : _) → question.Post κs (v, (t, (src, (dst, (frame, tt))))) r e
      → Does (within v) (questions (inbound_of t.0 src dst frame.now)) (record { result = r.result; err = 0; act = act_of r.act; count = 0; buffer = [] }) (within v)
  ticked : (κs : _) (v : Server) (t : Instant) (values pool : _) (r : ServerTicked) (e : _) → tick.Post κs (v, (t, (values, (pool, tt)))) r e
      → Does (within v) (ticks t.0 (table_of values.now pool.now)) (record { result = r.result; err = r.err; act = no_act; count = 0; buffer = [] }) (within r.server)
  completed : (κs : _) (v : Server) (t : Instant) (payload : _) (r : ServerAnswer) (e : _) → complete.Post κs (v, (t, (payload, tt))) r e
      → Does (within v) (completes t.0 payload.now) (shown r.result) (within r.server)
  failed : (κs : _) (v : Server) (t : Instant) (code : ℕ) (r : ServerAnswer) (e : _) → fail.Post κs (v, (t, (code, tt))) r e
      → Does (within v) (fails t.0 code) (shown r.result) (within r.server)
  drained : (κs : _) (v : Server) (out : _) (r : ServerDrained) (e : _) → drain.Post κs (v, (out, tt)) r e
      → Does (within v) (drains out.now) (record { result = r.result; err = 0; act = no_act; count = r.frames; buffer = e.1.0.now }) (within r.server)
  -- lent
  lent_requested : (κs : _) (config : _) (s : State) (k subs heads room : _) (t : Instant) (src dst : ℕ) (frame : _) (err : ℕ) (given values pool : _) (r : Answered) (e : _) → lent-request.Post κs (config, (s, (k, (subs, (heads, (room, (t, (src, (dst, (frame, (err, (given, (values, (pool, tt)))))))))))))) r e
      → Does (beside config.now s k.now subs.now heads.now room.now) (requests (request_of t.0 src dst frame.now err given.now values.now pool.now)) (record { result = r.result; err = 0; act = act_of r.act; count = 0; buffer = [] }) (beside config.now r.state e.1.1.0.now e.1.1.1.0.now e.1.1.1.1.0.now e.1.1.1.1.1.0.now)
  lent_questioned : (κs : _) (config : _) (s : State) (k subs heads room : _) (t : Instant) (src dst : ℕ) (frame : _) (r : Asked) (e : _) → lent-question.Post κs (config, (s, (k, (subs, (heads, (room, (t, (src, (dst, (frame, tt)))))))))) r e
      → Does (beside config.now s k.now subs.now heads.now room.now) (questions (inbound_of t.0 src dst frame.now)) (record { result = r.result; err = 0; act = act_of r.act; count = 0; buffer = [] }) (beside config.now s k.now subs.now heads.now room.now)
  lent-ticked : (κs : _) (config : _) (s : State) (k subs heads room : _) (t : Instant) (values pool : _) (r : Ticked) (e : _) → lent-tick.Post κs (config, (s, (k, (subs, (heads, (room, (t, (values, (pool, tt))))))))) r e
      → Does (beside config.now s k.now subs.now heads.now room.now) (ticks t.0 (table_of values.now pool.now)) (record { result = r.result; err = r.err; act = no_act; count = 0; buffer = [] }) (beside config.now r.state e.1.1.0.now e.1.1.1.0.now e.1.1.1.1.0.now e.1.1.1.1.1.0.now)
  lent-completed : (κs : _) (config : _) (s : State) (k subs heads room : _) (t : Instant) (payload : _) (r : Answer) (e : _) → lent-complete.Post κs (config, (s, (k, (subs, (heads, (room, (t, (payload, tt)))))))) r e
      → Does (beside config.now s k.now subs.now heads.now room.now) (completes t.0 payload.now) (shown r.result) (beside config.now r.state k.now subs.now e.1.1.1.1.0.now e.1.1.1.1.1.0.now)
  lent-failed : (κs : _) (config : _) (s : State) (k subs heads room : _) (t : Instant) (code : ℕ) (r : Answer) (e : _) → lent-fail.Post κs (config, (s, (k, (subs, (heads, (room, (t, (code, tt)))))))) r e
      → Does (beside config.now s k.now subs.now heads.now room.now) (fails t.0 code) (shown r.result) (beside config.now r.state k.now subs.now e.1.1.1.1.0.now e.1.1.1.1.1.0.now)
  lent-drained : (κs : _) (config : _) (s : State) (k subs heads room : _) (out : _) (r : Drained) (e : _) → lent-drain.Post κs (config, (s, (k, (subs, (heads, (room, (out, tt))))))) r e
      → Does (beside config.now s k.now subs.now heads.now room.now) (drains out.now) (record { result = r.result; err = 0; act = no_act; count = r.frames; buffer = e.1.1.1.1.1.1.0.now }) (beside config.now r.state k.now subs.now heads.now room.now)

-- what a call of the code shows and leaves is what the definition's call says
pub does_so : {m m' : Held} {c : Call} {x : Shown} → Does m c x m' → call max_frame (held_of m) c ≡ record { shown = x; state = held_of m' }
unfolding call
does_so (requested κs v t src dst frame err given values pool r e p) = ap done_answer (sym p)
does_so (questioned κs v t src dst frame r e p) = ap (done_asked _) (sym p)
does_so (ticked κs v t values pool r e p) = ap done_tick (sym p)
does_so (completed κs v t payload r e p) = ap done_step (sym p)
does_so (failed κs v t code r e p) = ap done_step (sym p)
does_so (drained κs v out r e p) = ap done_drain (sym p)
does_so (lent_requested κs config s k subs heads room t src dst frame err given values pool r e p) = ap done_answer (sym p)
does_so (lent_questioned κs config s k subs heads room t src dst frame r e p) = ap (done_asked _) (sym p)
does_so (lent-ticked κs config s k subs heads room t values pool r e p) = ap done_tick (sym p)
does_so (lent-completed κs config s k subs heads room t payload r e p) = ap done_step (sym p)
does_so (lent-failed κs config s k subs heads room t code r e p) = ap done_step (sym p)
does_so (lent-drained κs config s k subs heads room out r e p) = ap done_drain (sym p)

-- so whatever is proved of every call of the definition holds of every call of the code: when each result number comes, and what it leaves
pub so_the_code : (P : Model.State → Call → Done → Type 0) → ((s : Model.State) (c : Call) → P s c (call max_frame s c)) → {m m' : Held} {c : Call} {x : Shown} → Does m c x m' → P (held_of m) c (record { shown = x; state = held_of m' })
so_the_code P h {m = m} {c = c} d = rw (does_so d) at (h (held_of m) c)

-- a row of calls
pub data Runs : Held → List Call → List Shown → Held → Type 0 where
  end : {m : Held} → Runs m [] [] m
  and : {m m1 m2 : Held} {c : Call} {x : Shown} {h : List Call} {xs : List Shown} → Does m c x m1 → Runs m1 h xs m2 → Runs m (c ∷ h) (x ∷ xs) m2

-- what it shows, and what it leaves
pub runs_show : {m m' : Held} {h : List Call} {xs : List Shown} → Runs m h xs m' → xs ≡ shows max_frame (held_of m) h
runs_show end = refl
runs_show (and {x = x} {h = h} d r) = ap (x ∷◌) (runs_show r) ∙ ap (λ (y : Done). y.shown ∷ shows max_frame y.state h) (sym (does_so d))

pub runs_leave : {m m' : Held} {h : List Call} {xs : List Shown} → Runs m h xs m' → held_of m' ≡ run max_frame (held_of m) h
runs_leave end = refl
runs_leave (and {h = h} d r) = runs_leave r ∙ ap (λ (y : Done). run max_frame y.state h) (sym (does_so d))
