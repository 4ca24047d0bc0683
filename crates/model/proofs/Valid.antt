-- Every state that a server reaches is valid: no call leaves the numbers, and a fresh server keeps them.
pub mod Parts
pub mod Replies
pub mod Services
pub mod Tick
use Prim.Native.Nat.{ℕ, ◌≤◌}
use mathlib.Core.Path.{◌≡◌, refl}
use mathlib.Core.Bool.{Bool, true, false}
use mathlib.Core.List.{List, [], ◌∷◌}
use mathlib.Core.Option.{Option, some, none}
use lib.ListN.{length}
use lib.Dec.{leb}
use borrow.Author.Tests.{leb-true}
use Rattle.model.specs.Tests.{pick}
use Rattle.model.specs.Numbers.{Moment, max_time, max_outbox}
use Rattle.model.specs.Config.{Config, empty_config, within, find_service, table_within}
use Rattle.model.specs.Frame.{sid_of}
use Rattle.model.specs.State.{AddressMode, PendingRequest, State, Step, step, fresh_state, fresh, frame_valid, valid, with_pending, received, security_valid}
use Rattle.model.specs.Request.{Request, Answer, plain, seen, served, length_fits, heard, addressed, routed, request}
use Rattle.model.specs.Pending.{completed, failed, complete, fail}
use Rattle.model.specs.Tick.{Ticked, ticked, tick}
use Rattle.model.specs.Queue.{QueueDrain, records, drained}
use Rattle.model.specs.Drain.{Drained, drain}
use Rattle.model.specs.History.{Call, requests, questions, ticks, completes, fails, drains, call, run}
use Rattle.model.proofs.Laws.{either}
use Rattle.model.proofs.Valid.Parts.{Queued, Valid, valid_parts, parts_valid, now-valid}
use Rattle.model.proofs.Valid.Replies.{ValidStep, pending-valid, negative-valid, confirmed-valid, apply-valid}
use Rattle.model.proofs.Valid.Services.{Sound, guarded_fits}
use Rattle.model.proofs.Valid.Tick.{ticked-valid}

-- a call that refuses an invalid state, and then a time above 2^48, and changes nothing by either, has only the rest to show
gated : {A : Type 0} (limit : ℕ) (s : State) (now : Moment) (f : A → State) (x y z : A) → Valid limit s → (now ≤ max_time → Valid limit (f x)) → f y ≡ s → f z ≡ s
    → Valid limit (f (pick (valid limit s) (pick (leb now max_time) x y) z))
gated limit s now f x y z h k p q = either (λ a. Valid limit (f a)) (valid limit s) (go (leb now max_time) refl) (rw q h)
  where
    go : (b : Bool) → leb now max_time ≡ b → Valid limit (f (pick b x y))
    go true e = k (leb-true now max_time e)
    go false e = rw p h

module _ (limit : ℕ) (room : 3 ≤ limit) where
  -- a request that is heard
  heard-valid : (s : State) (r : Request) (o : Option PendingRequest) → r.inbound.time ≤ max_time → Valid limit s → ValidStep limit (heard limit s r o).step
  unfolding heard
  heard-valid s r (some p) t h = negative-valid limit room r.inbound.dst (sid_of r.inbound.frame) 0x21 h
  heard-valid s r none t h =
      either (λ (a : Answer). ValidStep limit a.step) (length_fits r.inbound.frame)
      (apply-valid limit room s r.inbound.src (sid_of r.inbound.frame) r.inbound.time (served limit s r).effect t h
      (guarded_fits (seen limit s r) sound (sid_of r.inbound.frame) (find_service s.config (sid_of r.inbound.frame))))
      h
    where
      sound : Sound (seen limit s r)
      sound = record { config = h.config; last_rx = h.last_rx; security = h.security; periodic = h.periodic; now = t }

  -- last_rx becomes a time that is handed in
  received-valid : (s : State) (m : AddressMode) (now : Moment) → now ≤ max_time → Valid limit s → Valid limit (received s m now)
  received-valid s m now t h = record { config = h.config; last_rx = now-valid now t; security = h.security; periodic = h.periodic; pending = h.pending; queue = h.queue }

  -- a request that is routed, also one to a foreign address
  routed-valid : (s : State) (r : Request) (o : Option AddressMode) → r.inbound.time ≤ max_time → Valid limit s → ValidStep limit (routed limit s r o).step
  unfolding routed
  routed-valid s r none t h = h
  routed-valid s r (some m) t h = heard-valid (received s m r.inbound.time) r s.pending t (received-valid s m r.inbound.time t h)

  -- a pending request ends by an answer
  completed-valid : (s : State) (p : List ℕ) (o : Option PendingRequest) → Valid limit s → ValidStep limit (completed limit s p o)
  unfolding completed
  completed-valid s p none h = h
  completed-valid s p (some q) h = confirmed-valid limit room (with_pending s none) q.dst q.sid p (pending-valid h refl)

  -- or by a code
  failed-valid : (s : State) (code : ℕ) (o : Option PendingRequest) → Valid limit s → ValidStep limit (failed s code o)
  unfolding failed
  failed-valid s code none h = h
  failed-valid s code (some q) h = negative-valid limit room q.dst q.sid code (pending-valid h refl)

  -- the queue is emptied, or stands
  drained-valid : (s : State) (b : List ℕ) → Valid limit s → Valid limit (drain limit s b).step.state
  unfolding drain drained
  drained-valid s b h =
      either (λ (d : Drained). ValidStep limit d.step) (valid limit s)
      (record { config = h.config; last_rx = h.last_rx; security = h.security; periodic = h.periodic; pending = h.pending; queue = left })
      h
    where
      Left : QueueDrain → Type 0
      Left d = Queued limit d.queue

      left : Left (drained limit s.queue b)
      left = either Left (table_within max_outbox (frame_valid limit) s.queue) (either Left (leb (length (records s.queue)) (length b)) refl h.queue) h.queue

  -- each call by its kind
  call_parts : (s : State) (c : Call) → Valid limit s → Valid limit (call limit s c).state
  unfolding call request tick complete fail
  call_parts s (requests r) h =
      gated limit s r.inbound.time (λ (a : Answer). a.step.state) (routed limit s r (addressed s.config r.inbound.dst)) (plain (step 6 s)) (plain (step 10 s)) h
      (λ t. routed-valid s r (addressed s.config r.inbound.dst) t h) refl refl
  call_parts s (questions i) h = h
  call_parts s (ticks now t) h =
      gated limit s now (λ (a : Ticked). a.step.state) (ticked limit s now t) (record { err = 0; step = step 6 s }) (record { err = 0; step = step 10 s }) h
      (λ k. ticked-valid limit now t k room s h) refl refl
  call_parts s (completes now p) h =
      gated limit s now (λ (a : Step). a.state) (completed limit s p s.pending) (step 6 s) (step 10 s) h
      (λ k. completed-valid s p s.pending h) refl refl
  call_parts s (fails now code) h =
      gated limit s now (λ (a : Step). a.state) (failed s code s.pending) (step 6 s) (step 10 s) h
      (λ k. failed-valid s code s.pending h) refl refl
  call_parts s (drains b) h = drained-valid s b h

  -- no call makes a valid state invalid
  pub call-valid : (s : State) (c : Call) → valid limit s ≡ true → valid limit (call limit s c).state ≡ true
  call-valid s c e = parts_valid limit (call limit s c).state (call_parts s c (valid_parts limit s e))

  -- nor does a history of calls
  pub run-valid : (h : List Call) (s : State) → valid limit s ≡ true → valid limit (run limit s h) ≡ true
  run-valid [] s e = e
  run-valid (c ∷ h) s e = run-valid h (call limit s c).state (call-valid s c e)

-- a fresh server's state is valid if its configuration keeps the numbers
fresh_parts : (limit : ℕ) (c : Config) → within c ≡ true → Valid limit (fresh_state c)
unfolding security_valid
fresh_parts limit c h = record { config = h; last_rx = refl; security = refl; periodic = refl; pending = refl; queue = refl }

-- a fresh server is valid, and so is the one that comes with result 7
pub fresh-valid : (c : Config) (limit : ℕ) → valid limit (fresh c).state ≡ true
unfolding fresh within
fresh-valid c limit = go (within c) refl
  where
    go : (b : Bool) → within c ≡ b → valid limit (pick b (step 0 (fresh_state c)) (step 7 (fresh_state empty_config))).state ≡ true
    go true e = parts_valid limit (fresh_state c) (fresh_parts limit c e)
    go false e = parts_valid limit (fresh_state empty_config) (fresh_parts limit empty_config refl)

-- so every state that a server reaches is valid, whatever it was configured with and whatever it was called with
pub reached_valid : (limit : ℕ) → 3 ≤ limit → (c : Config) (h : List Call) → valid limit (run limit (fresh c).state h) ≡ true
reached_valid limit room c h = run-valid limit room h (fresh c).state (fresh-valid c limit)
