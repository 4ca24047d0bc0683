-- Replies keep a state valid: whatever is queued has 1 to `limit` bytes, and a deadline is now plus a span.
use Prim.Native.Nat.{ℕ, suc, ◌≤◌, ◌<◌}
use mathlib.Core.Path.{◌≡◌, refl}
use mathlib.Core.Bool.{Bool, true, false}
use mathlib.Core.List.{List, [], ◌∷◌, ◌++◌}
use mathlib.Core.Option.{Option}
use native.Mathlib.Omega.{arith}
use lib.ListN.{length, length-append}
use lib.Dec.{leb, ltb, eqb}
use borrow.Author.Tests.{ltb-true, leb-true, le-leb}
use Rattle.model.specs.Tests.{pick}
use Rattle.model.specs.Numbers.{Moment, max_outbox, max_time}
use Rattle.model.specs.Config.{find_session, p2_ext_of}
use Rattle.model.specs.Frame.{Frame, positive_frame, negative_frame}
use Rattle.model.specs.State.{PendingRequest, State, Step, moment_valid, security_valid, pending_valid, frame_valid, with_pending}
use Rattle.model.specs.Queue as Queue
use Rattle.model.specs.Queue.{QueueStep, Reply, silent, positive, negative, always, pends, leaves, pushed, withheld, refused, answered}
use Rattle.model.specs.Reply.{taken, queued, confirmed, begun, replied}
use Rattle.model.specs.Service.{Effect, changed, changed_after, apply}
use Rattle.model.proofs.Laws.{both, either, all_snoc, within_all, table-within}
use Rattle.model.proofs.Valid.Parts.{Subscribed, Queued, Valid, p2_ext-below, later-valid}

-- the state that a step leaves is valid
abbrev pub ValidStep : ℕ → Step → Type 0
ValidStep limit p = Valid limit p.state

-- frames that keep the numbers, and one more where there is room
pub frames_snoc : (limit : ℕ) (q : List Frame) (f : Frame) → Queued limit q → frame_valid limit f ≡ true → length q < max_outbox → Queued limit (q ++ (f ∷ []))
frames_snoc limit q f h e r =
    table-within max_outbox (frame_valid limit) (q ++ (f ∷ [])) (rw length-append (omega arith)) (all_snoc (frame_valid limit) q f (within_all max_outbox (frame_valid limit) q h) e)

-- another pending request, or none
pub pending-valid : {limit : ℕ} {s : State} {p : Option PendingRequest} → Valid limit s → pending_valid p ≡ true → Valid limit (with_pending s p)
pending-valid h e = record { config = h.config; last_rx = h.last_rx; security = h.security; periodic = h.periodic; pending = e; queue = h.queue }

-- a frame queued has at least a byte and at most `limit`
pub queued-valid : (limit : ℕ) (s : State) (to : ℕ) (b : List ℕ) → Valid limit s → 1 ≤ length b → length b ≤ limit → ValidStep limit (queued s to b)
unfolding queued pushed
queued-valid limit s to b h low high = go (ltb (length s.queue) max_outbox) refl
  where
    f : Frame
    f = record { dst = to; bytes = b }

    go : (t : Bool) → ltb (length s.queue) max_outbox ≡ t → ValidStep limit (taken s (pick t (leaves 0 (s.queue ++ (f ∷ []))) (leaves 3 s.queue)))
    go false e = h
    go true e = record {
      config = h.config;
      last_rx = h.last_rx;
      security = h.security;
      periodic = h.periodic;
      pending = h.pending;
      queue = frames_snoc limit s.queue f h.queue (both (le-leb 1 (length b) low) (le-leb (length b) limit high)) (ltb-true (length s.queue) max_outbox e);
    }

-- an effect whose records keep the numbers
pub record Fits (e : Effect) : Type 0 where
  pub last_rx : moment_valid e.session.last_rx ≡ true
  pub security : security_valid e.security ≡ true
  pub periodic : Subscribed e.periodic

-- such records taken into a state
pub changed-valid : {limit : ℕ} {s : State} {e : Effect} → Valid limit s → Fits e → Valid limit (changed s e)
changed-valid h f = record { config = h.config; last_rx = f.last_rx; security = f.security; periodic = f.periodic; pending = h.pending; queue = h.queue }

module _ (limit : ℕ) (room : 3 ≤ limit) where
  -- a negative frame has three bytes, and the limit has room for it
  pub negative-valid : {s : State} (to sid code : ℕ) → Valid limit s → ValidStep limit (queued s to (negative_frame sid code))
  negative-valid {s} to sid code h = queued-valid limit s to (negative_frame sid code) h (omega arith) (omega arith)

  -- a negative frame that may be withheld
  pub refused-valid : (s : State) (to sid code : ℕ) → Valid limit s → ValidStep limit (taken s (refused s.mode s.queue to sid code))
  unfolding queued refused
  refused-valid s to sid code h = either (λ (p : QueueStep). ValidStep limit (taken s p)) (withheld s.mode code) h (negative-valid to sid code h)

  -- a positive frame within the limit, or 0x14
  pub confirmed-valid : (s : State) (to sid : ℕ) (p : List ℕ) → Valid limit s → ValidStep limit (confirmed limit s to sid p)
  unfolding queued confirmed Queue.confirmed
  confirmed-valid s to sid p h = go (leb (suc (length p)) limit) refl
    where
      go : (t : Bool) → leb (suc (length p)) limit ≡ t → ValidStep limit (taken s (pick t (pushed s.queue to (positive_frame sid p)) (refused s.mode s.queue to sid 0x14)))
      go true e = queued-valid limit s to (positive_frame sid p) h (omega arith) (leb-true (suc (length p)) limit e)
      go false e = refused-valid s to sid 0x14 h

  -- a request that becomes pending: its deadline is now plus P2*
  pub begun-valid : (s : State) (to sid : ℕ) (now : Moment) → now ≤ max_time → Valid limit s → ValidStep limit (begun s to sid now)
  unfolding queued begun
  begun-valid s to sid now t h =
      let span = p2_ext-below s.config s.session.session_type h.config in
      negative-valid to sid 0x78 (pending-valid h (later-valid now (p2_ext_of (find_session s.config s.session.session_type)) t span))

  -- any reply
  pub replied-valid : (s : State) (to sid : ℕ) (now : Moment) (r : Reply) → now ≤ max_time → Valid limit s → ValidStep limit (replied limit s to sid now r)
  unfolding queued confirmed begun replied answered
  replied-valid s to sid now silent t h = h
  replied-valid s to sid now (positive p) t h = confirmed-valid s to sid p h
  replied-valid s to sid now (negative code) t h = refused-valid s to sid code h
  replied-valid s to sid now (always code) t h = negative-valid to sid code h
  replied-valid s to sid now pends t h = begun-valid s to sid now t h

  -- an effect carried out, its change before the reply or after it
  pub apply-valid : (s : State) (to sid : ℕ) (now : Moment) (e : Effect) → now ≤ max_time → Valid limit s → Fits e → ValidStep limit (apply limit s to sid now e)
  unfolding apply changed_after
  apply-valid s to sid now e t h f =
      either (ValidStep limit) e.waits (after (replied limit s to sid now e.reply) (replied-valid s to sid now e.reply t h))
      (replied-valid (changed s e) to sid now e.reply t (changed-valid h f))
    where
      after : (p : Step) → ValidStep limit p → ValidStep limit (changed_after e p)
      after p k = either (ValidStep limit) (eqb p.result 0) (changed-valid k f) k
