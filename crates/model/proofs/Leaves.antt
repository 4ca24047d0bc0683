-- What each result number means and leaves.
pub mod Replies
pub mod Results
pub mod Periodic
pub mod Tick
pub mod Room
use Prim.Native.Nat.{ℕ, ◌≤◌, ◌<◌}
use mathlib.Core.Path.{◌≡◌, refl}
use mathlib.Core.Bool.{Bool, true, false, ◌&&◌, true≢false, and-false}
use mathlib.Core.Logic.{◌↔◌, ◌⊎◌, inl, inr}
use mathlib.Core.List.{List, [], ◌∷◌}
use mathlib.Core.Option.{Option, some, none}
use native.Mathlib.Omega.{arith}
use lib.ListN.{length}
use lib.Dec.{leb}
use borrow.Author.Tests.{leb-true, leb-false, le-leb, lt-leb}
use Rattle.model.specs.Tests.{pick, memb}
use Rattle.model.specs.Numbers.{Moment, max_time, max_request}
use Rattle.model.specs.Config.{Config, empty_config, within}
use Rattle.model.specs.Frame.{sid_of, negative_frame}
use Rattle.model.specs.State.{AddressMode, PendingRequest, State, Step, step, fresh_state, fresh, valid, with_pending, received}
use Rattle.model.specs.Request.{Request, plain, served, carried, length_fits, heard, addressed, routed, request}
use Rattle.model.specs.Pending.{completed, failed, complete, fail}
use Rattle.model.specs.Queue as Queue
use Rattle.model.specs.Queue.{records, written, drained}
use Rattle.model.specs.Drain.{unmoved, drain}
use Rattle.model.specs.History.{Call, requests, questions, ticks, completes, fails, drains, call}
use Rattle.model.proofs.Laws.{either, Each, memb-each, memb_never}
use Rattle.model.proofs.Leaves.Replies.{Unmoved, queued-unmoved, confirmed-unmoved, queued-answered, confirmed-answered, apply_gives}
use Rattle.model.proofs.Leaves.Results.{time_of, refused_by, passing, may_give, call_10, call_6, call_passing}
use Rattle.model.proofs.Valid.Parts.{valid_parts}

-- a call ends in one of three ways: by 10, by 6, or past both with another number
pub data Ends (limit : ℕ) (s : State) (c : Call) : Type 0 where
  invalid : valid limit s ≡ false → call limit s c ≡ refused_by 10 s c → Ends limit s c
  late : valid limit s ≡ true → max_time < time_of c → call limit s c ≡ refused_by 6 s c → Ends limit s c
  passes : valid limit s ≡ true → time_of c ≤ max_time → memb (call limit s c).shown.result (passing c) ≡ true → Ends limit s c

-- every call does
pub ends : (limit : ℕ) (s : State) (c : Call) → Ends limit s c
ends limit s c = go (valid limit s) (leb (time_of c) max_time) refl refl
  where
    go : (v t : Bool) → valid limit s ≡ v → leb (time_of c) max_time ≡ t → Ends limit s c
    go false t e f = invalid e (call_10 limit s c e)
    go true true e f = let h = leb-true (time_of c) max_time f in passes e h (call_passing limit s c e h)
    go true false e f = let h = leb-false (time_of c) max_time f in late e h (call_6 limit s c e h)

-- the numbers past 10 and 6 are neither, and a call may give all three kinds
numbers : (c : Call) → Each (λ n. memb n (may_give c) ≡ true) (passing c) × (memb 10 (may_give c) ≡ true) × (memb 10 (passing c) ≡ false) × (memb 6 (passing c) ≡ false)
numbers (requests r) = ((refl, (refl, (refl, tt))), refl, refl, refl)
numbers (questions i) = ((refl, (refl, tt)), refl, refl, refl)
numbers (ticks now t) = ((refl, (refl, (refl, (refl, tt)))), refl, refl, refl)
numbers (completes now payload) = ((refl, (refl, (refl, tt))), refl, refl, refl)
numbers (fails now code) = ((refl, (refl, (refl, tt))), refl, refl, refl)
numbers (drains buffer) = ((refl, (refl, tt)), refl, refl, refl)

-- a call that has a time may give 6
may_6 : (c : Call) → max_time < time_of c → memb 6 (may_give c) ≡ true
may_6 (requests r) h = refl
may_6 (questions i) h = refl
may_6 (ticks now t) h = refl
may_6 (completes now payload) h = refl
may_6 (fails now code) h = refl
may_6 (drains buffer) h = absurd (omega arith)

-- a call gives no number but those of its kind
pub call_results : (limit : ℕ) (s : State) (c : Call) → memb (call limit s c).shown.result (may_give c) ≡ true
call_results limit s c = go (ends limit s c)
  where
    go : Ends limit s c → memb (call limit s c).shown.result (may_give c) ≡ true
    go (invalid v e) = rw e (numbers c).1
    go (late v h e) = rw e (may_6 c h)
    go (passes v h m) = memb-each (λ n. memb n (may_give c) ≡ true) (call limit s c).shown.result (passing c) (numbers c).0 m

-- 10 is given exactly when the state handed in is not valid; by `call_10` nothing is then changed
pub exactly_10 : (limit : ℕ) (s : State) (c : Call) → ((call limit s c).shown.result ≡ 10) ↔ (valid limit s ≡ false)
exactly_10 limit s c = (go (ends limit s c), λ e. rw (call_10 limit s c e) refl)
  where
    go : Ends limit s c → (call limit s c).shown.result ≡ 10 → valid limit s ≡ false
    go (invalid v e) z = v
    go (late v h e) z = let y : ◌≡◌ {A = ℕ} 6 10 = rw e at z in absurd (omega arith)
    go (passes v h m) z = absurd (memb_never 10 (call limit s c).shown.result (passing c) (numbers c).2 m z)

-- 6 is given, of a valid state, exactly when the time is above 2^48; by `call_6` nothing is then changed
pub exactly_6 : (limit : ℕ) (s : State) (c : Call) → valid limit s ≡ true → ((call limit s c).shown.result ≡ 6) ↔ (max_time < time_of c)
exactly_6 limit s c w = (go (ends limit s c), λ h. rw (call_6 limit s c w h) refl)
  where
    go : Ends limit s c → (call limit s c).shown.result ≡ 6 → max_time < time_of c
    go (invalid v e) z = let y : ◌≡◌ {A = ℕ} 10 6 = rw e at z in absurd (omega arith)
    go (late v h e) z = h
    go (passes v h m) z = absurd (memb_never 6 (call limit s c).shown.result (passing c) (numbers c).3 m z)

-- a frame's length is 0 or above 4095
abbrev pub Misfit : List ℕ → Type 0
Misfit f = (length f ≡ 0) ⊎ (max_request < length f)

-- which is to say that it does not fit
misfit : (f : List ℕ) → (length_fits f ≡ false) ↔ Misfit f
misfit f = (there (leb 1 (length f)) (leb (length f) max_request) refl refl, back)
  where
    there : (a b : Bool) → leb 1 (length f) ≡ a → leb (length f) max_request ≡ b → (a && b) ≡ false → Misfit f
    there true true p q e = absurd (true≢false e)
    there true false p q e = inr (leb-false (length f) max_request q)
    there false b p q e = let low = leb-false 1 (length f) p in inl (omega arith)

    back : Misfit f → length_fits f ≡ false
    back (inl e) = rw e refl
    back (inr h) = rw (lt-leb (length f) max_request h) (and-false (leb 1 (length f)))

-- the other numbers, of a valid state and a time up to 2^48
module _ (limit : ℕ) (s : State) (v : valid limit s ≡ true) where
  -- 1 is given by complete exactly when nothing is pending
  pub complete_1 : (now : Moment) (payload : List ℕ) → now ≤ max_time → ((complete limit s now payload).result ≡ 1) ↔ (s.pending ≡ none)
  unfolding complete completed
  complete_1 now payload h = rw (v, le-leb now max_time h) (go s.pending, λ e. rw e refl)
    where
      go : (o : Option PendingRequest) → (completed limit s payload o).result ≡ 1 → o ≡ none
      go none z = refl
      go (some p) z =
          absurd (memb_never 1 (completed limit s payload (some p)).result (0 ∷ 3 ∷ []) refl
          (confirmed-answered limit (with_pending s none) p.dst p.sid payload).result z)

  -- and leaves all unchanged
  pub complete_1_leaves : (now : Moment) (payload : List ℕ) → now ≤ max_time → s.pending ≡ none → complete limit s now payload ≡ step 1 s
  unfolding complete completed
  complete_1_leaves now payload h e = rw (v, le-leb now max_time h, e) refl

  -- so too by fail
  pub fail_1 : (now : Moment) (code : ℕ) → now ≤ max_time → ((fail limit s now code).result ≡ 1) ↔ (s.pending ≡ none)
  unfolding fail failed
  fail_1 now code h = rw (v, le-leb now max_time h) (go s.pending, λ e. rw e refl)
    where
      go : (o : Option PendingRequest) → (failed s code o).result ≡ 1 → o ≡ none
      go none z = refl
      go (some p) z =
          absurd (memb_never 1 (failed s code (some p)).result (0 ∷ 3 ∷ []) refl
          (queued-answered (with_pending s none) p.dst (negative_frame p.sid code)).result z)

  -- which also leaves all unchanged
  pub fail_1_leaves : (now : Moment) (code : ℕ) → now ≤ max_time → s.pending ≡ none → fail limit s now code ≡ step 1 s
  unfolding fail failed
  fail_1_leaves now code h e = rw (v, le-leb now max_time h, e) refl

  -- 2 concerns a frame that is addressed while nothing is pending
  module _ (r : Request) (m : AddressMode) (h : r.inbound.time ≤ max_time) (a : addressed s.config r.inbound.dst ≡ some m) (p : s.pending ≡ none) where
    -- such a frame is heard
    now-heard : request limit s r ≡ heard limit (received s m r.inbound.time) r none
    unfolding request routed
    now-heard = rw (v, le-leb r.inbound.time max_time h, a, p) refl

    -- 2 is given exactly when its length is 0 or above 4095
    pub request_2 : ((request limit s r).step.result ≡ 2) ↔ ((length r.inbound.frame ≡ 0) ⊎ (max_request < length r.inbound.frame))
    unfolding heard
    request_2 = rw now-heard (λ z. (misfit r.inbound.frame).0 (go (length_fits r.inbound.frame) z), λ k. rw ((misfit r.inbound.frame).1 k) refl)
      where
        t : State
        t = received s m r.inbound.time

        go : (b : Bool) → (pick b (carried limit t r.inbound (served limit t r)) (plain (step 2 t))).step.result ≡ 2 → b ≡ false
        go true z =
            absurd (memb_never 2 (carried limit t r.inbound (served limit t r)).step.result (0 ∷ 3 ∷ []) refl
            (apply_gives limit t r.inbound.src (sid_of r.inbound.frame) r.inbound.time (served limit t r).effect) z)
        go false z = refl

    -- and leaves the address mode and last_rx set, and all else unchanged
    pub request_2_leaves : (length r.inbound.frame ≡ 0) ⊎ (max_request < length r.inbound.frame) → request limit s r ≡ plain (step 2 (received s m r.inbound.time))
    unfolding heard
    request_2_leaves k = rw (now-heard, (misfit r.inbound.frame).1 k) refl

  -- 2 is given for no other frame: a foreign frame gives 0, and one that comes while a request is pending 0 or 3
  pub request_2_only : (r : Request) → r.inbound.time ≤ max_time → (request limit s r).step.result ≡ 2
      → (s.pending ≡ none) × ((m : AddressMode) × (addressed s.config r.inbound.dst ≡ some m))
  unfolding request routed heard
  request_2_only r h = rw (v, le-leb r.inbound.time max_time h) (mode (addressed s.config r.inbound.dst) refl)
    where
      free : (m : AddressMode) (o : Option PendingRequest) → (heard limit (received s m r.inbound.time) r o).step.result ≡ 2 → o ≡ none
      free m none z = refl
      free m (some p) z =
          absurd (memb_never 2 (heard limit (received s m r.inbound.time) r (some p)).step.result (0 ∷ 3 ∷ []) refl
          (queued-answered (received s m r.inbound.time) r.inbound.dst (negative_frame (sid_of r.inbound.frame) 0x21)).result z)

      mode : (o : Option AddressMode) → addressed s.config r.inbound.dst ≡ o → (routed limit s r o).step.result ≡ 2
          → (s.pending ≡ none) × ((m : AddressMode) × (addressed s.config r.inbound.dst ≡ some m))
      mode none e z = absurd (omega arith)
      mode (some m) e z = (free m s.pending z, (m, e))

  -- 5 is given by drain exactly when the records exceed the buffer
  pub drain_5 : (buffer : List ℕ) → ((drain limit s buffer).step.result ≡ 5) ↔ (length buffer < length (records s.queue))
  unfolding drain drained
  drain_5 buffer = rw (v, (valid_parts limit s v).queue) (go (leb (length (records s.queue)) (length buffer)) refl, λ h. rw (lt-leb (length (records s.queue)) (length buffer) h) refl)
    where
      go : (t : Bool) → leb (length (records s.queue)) (length buffer) ≡ t
          → (pick t (written s.queue buffer) (Queue.unmoved 5 s.queue buffer)).result ≡ 5 → length buffer < length (records s.queue)
      go true e z = absurd (omega arith)
      go false e z = leb-false (length (records s.queue)) (length buffer) e

  -- and leaves state and buffer unchanged, with no frame drained
  pub drain_5_leaves : (buffer : List ℕ) → length buffer < length (records s.queue) → drain limit s buffer ≡ unmoved 5 s buffer
  unfolding drain drained
  drain_5_leaves buffer h = rw (v, (valid_parts limit s v).queue, lt-leb (length (records s.queue)) (length buffer) h) refl

-- past 10 and 6, which are not 3
gated_3 : (limit : ℕ) (s u : State) (now : Moment) (x : Step) → Unmoved u x → Unmoved u (pick (valid limit s) (pick (leb now max_time) x (step 6 s)) (step 10 s))
gated_3 limit s u now x h = either (Unmoved u) (valid limit s) (either (Unmoved u) (leb now max_time) h (λ z. absurd (omega arith))) (λ z. absurd (omega arith))

-- 3, of complete: the pending request has ended, and nothing else is changed
pub complete_3 : (limit : ℕ) (s : State) (now : Moment) (payload : List ℕ) → (complete limit s now payload).result ≡ 3 → (complete limit s now payload).state ≡ with_pending s none
unfolding complete completed
complete_3 limit s now payload = gated_3 limit s (with_pending s none) now (completed limit s payload s.pending) (go s.pending)
  where
    go : (o : Option PendingRequest) → Unmoved (with_pending s none) (completed limit s payload o)
    go none = λ z. absurd (omega arith)
    go (some p) = confirmed-unmoved limit (with_pending s none) p.dst p.sid payload

-- and so of fail
pub fail_3 : (limit : ℕ) (s : State) (now : Moment) (code : ℕ) → (fail limit s now code).result ≡ 3 → (fail limit s now code).state ≡ with_pending s none
unfolding fail failed
fail_3 limit s now code = gated_3 limit s (with_pending s none) now (failed s code s.pending) (go s.pending)
  where
    go : (o : Option PendingRequest) → Unmoved (with_pending s none) (failed s code o)
    go none = λ z. absurd (omega arith)
    go (some p) = queued-unmoved (with_pending s none) p.dst (negative_frame p.sid code)

-- 7 is given by fresh exactly when the configuration is outside a number
pub fresh_7 : (c : Config) → ((fresh c).result ≡ 7) ↔ (within c ≡ false)
unfolding fresh
fresh_7 c = (go (within c) refl, λ e. rw e refl)
  where
    go : (b : Bool) → within c ≡ b → (pick b (step 0 (fresh_state c)) (step 7 (fresh_state empty_config))).result ≡ 7 → within c ≡ false
    go true e z = absurd (omega arith)
    go false e z = e

-- and comes with the fresh server of the empty configuration
pub fresh_7_leaves : (c : Config) → within c ≡ false → fresh c ≡ step 7 (fresh_state empty_config)
unfolding fresh
fresh_7_leaves c e = rw e refl
