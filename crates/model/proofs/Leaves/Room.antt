-- 3 of a request, of complete and of fail: it comes exactly where the same call, with no frame waiting, queues a frame, and 16 wait. What is left is
-- what that call leaves, with the frames that waited; but an ECU reset that is done leaves the state as received, for its change waits for its answer.
use Prim.Native.Nat.{ℕ, suc, ◌≤◌, ◌<◌}
use mathlib.Core.Path.{◌≡◌, refl, sym, ◌∙◌}
use mathlib.Core.Bool.{Bool, true, false, ◌&&◌}
use mathlib.Core.Logic.{◌↔◌, ◌⊎◌, inl, inr}
use mathlib.Core.List.{List, [], ◌∷◌, ◌++◌, append-nil}
use mathlib.Core.Option.{Option, some, none}
use native.Mathlib.Omega.{arith}
use lib.ListN.{length, replicate}
use lib.Dec.{leb, ltb, eqb}
use borrow.Author.Tests.{ltb-true, ltb-false, le-leb, eqb-true, eqb-false, ne_eqb}
use Rattle.model.specs.Tests.{pick}
use Rattle.model.specs.Numbers.{Moment, max_frame, max_outbox, max_time}
use Rattle.model.specs.Config.{ServiceConfig, find_service, allowed_in}
use Rattle.model.specs.Values.{Outcome, bytes, error, outcome, empty_table}
use Rattle.model.specs.Frame.{Frame, sid_of, payload_of, sub_function, suppressed, positive_frame, negative_frame}
use Rattle.model.specs.State.{AddressMode, PendingRequest, State, Step, step, fresh_session, fresh_security, fresh_state, valid, with_queue, with_pending, with_records, received, opened}
use Rattle.model.specs.Queue as Queue
use Rattle.model.specs.Queue.{QueueStep, Reply, silent, positive, negative, always, pends, leaves, pushed, withheld, refused, answered}
use Rattle.model.specs.Reply.{taken, queued, confirmed, awaiting, replied}
use Rattle.model.specs.Service.{Seen, Act, Effect, Served, part, asks, changed, changed_after, apply}
use Rattle.model.specs.Service11.{reset, service11}
use Rattle.model.specs.Request.{Request, Answer, seen, service, guarded, served, length_fits, heard, addressed, routed, request}
use Rattle.model.specs.Pending.{completed, failed, complete, fail}
use Rattle.model.specs.Fixed.{fixed_config}
use Rattle.model.specs.Alike.{inbound, asking}
use Rattle.model.proofs.Open.{whole}
use Rattle.model.proofs.Dispatch.{at_guarded}
use Rattle.model.proofs.Laws.{either, either_by, alike}
use Rattle.model.proofs.Places.{Placed, placed-each}
use Rattle.model.proofs.Untouched.{Left, untouched}
use Rattle.model.proofs.Valid.Parts.{valid_parts, parts_valid}

-- a reply goes to a queue as it goes to an empty one: no frame, or one behind those that wait, or 3 where 16 do
pub data Joins (q : List Frame) : QueueStep → QueueStep → Type 0 where
  nothing : Joins q (leaves 0 []) (leaves 0 q)
  room : (f : Frame) → length q < max_outbox → Joins q (leaves 0 (f ∷ [])) (leaves 0 (q ++ (f ∷ [])))
  no_room : (f : Frame) → max_outbox ≤ length q → Joins q (leaves 0 (f ∷ [])) (leaves 3 q)

-- so does a frame
pushed_joins : (q : List Frame) (to : ℕ) (b : List ℕ) → Joins q (pushed [] to b) (pushed q to b)
unfolding pushed
pushed_joins q to b =
    let f : Frame = record { dst = to; bytes = b } in
    either_by (Joins q (leaves 0 (f ∷ []))) (ltb (length q) max_outbox) (λ e. room f (ltb-true (length q) max_outbox e)) (λ e. no_room f (ltb-false (length q) max_outbox e))

-- a negative code, withheld or not
refused_joins : (mode : AddressMode) (q : List Frame) (to sid code : ℕ) → Joins q (refused mode [] to sid code) (refused mode q to sid code)
unfolding refused
refused_joins mode q to sid code = alike (Joins q) (withheld mode code) nothing (pushed_joins q to (negative_frame sid code))

-- and a positive payload, or 0x14
confirmed_joins : (limit : ℕ) (mode : AddressMode) (q : List Frame) (to sid : ℕ) (p : List ℕ) → Joins q (Queue.confirmed limit mode [] to sid p) (Queue.confirmed limit mode q to sid p)
unfolding Queue.confirmed
confirmed_joins limit mode q to sid p = alike (Joins q) (leb (suc (length p)) limit) (pushed_joins q to (positive_frame sid p)) (refused_joins mode q to sid 0x14)

-- a step beside the same call's step where no frame waits; `kept` is the state that is left where its frame finds no room
pub data Beside (q : List Frame) (kept : State) : Step → Step → Type 0 where
  quiet : (n : ℕ) (u : State) → (n ≡ 3 → ⊥) → Beside q kept (step n (with_queue u [])) (step n (with_queue u q))
  sends : (u : State) (f : Frame) → length q < max_outbox → Beside q kept (step 0 (with_queue u (f ∷ []))) (step 0 (with_queue u (q ++ (f ∷ []))))
  full : (u : State) (f : Frame) → max_outbox ≤ length q → Beside q kept (step 0 (with_queue u (f ∷ []))) (step 3 kept)

-- where none waits it queues no frame, or one
pub beside-frames : {q : List Frame} {kept : State} {lone p : Step} → Beside q kept lone p → (lone.state.queue ≡ []) ⊎ ((f : Frame) × (lone.state.queue ≡ f ∷ []))
beside-frames (quiet n u z) = inl refl
beside-frames (sends u f h) = inr (f, refl)
beside-frames (full u f h) = inr (f, refl)

-- 3 comes exactly where it queues one there, and 16 wait
pub beside_3 : {q : List Frame} {kept : State} {lone p : Step} → Beside q kept lone p
    → (p.result ≡ 3) ↔ ((max_outbox ≤ length q) × ((f : Frame) × (lone.state.queue ≡ f ∷ [])))
beside_3 (quiet n u z) = (λ e. absurd (z e), λ k. let y : n ≡ 3 = cc k.1.1 in y)
beside_3 (sends u f h) = (λ e. absurd (omega arith), λ k. absurd (omega arith))
beside_3 (full u f h) = (λ e. (h, (f, refl)), λ k. refl)

-- and leaves the state that is kept
pub beside_3_leaves : {q : List Frame} {kept : State} {lone p : Step} → Beside q kept lone p → p.result ≡ 3 → p.state ≡ kept
beside_3_leaves (quiet n u z) e = absurd (z e)
beside_3_leaves (sends u f h) e = absurd (omega arith)
beside_3_leaves (full u f h) e = refl

-- what a step leaves where no frame waits, its frame behind those that do
abbrev pub behind : List Frame → Step → Step
behind q p = step p.result (with_queue p.state (q ++ p.state.queue))

-- another number comes where it comes with no frame waiting, and leaves that
pub beside_else : {q : List Frame} {kept : State} {lone p : Step} → Beside q kept lone p → (p.result ≡ 3 → ⊥) → p ≡ behind q lone
beside_else (quiet n u z) e = rw append-nil refl
beside_else (sends u f h) e = refl
beside_else (full u f h) e = absurd (e refl)

-- a step of the queue taken into the state
taken-beside : {q : List Frame} {x y : QueueStep} (s : State) → Joins q x y → Beside q (with_queue s q) (taken s x) (taken s y)
taken-beside s nothing = quiet 0 s (λ z. omega arith)
taken-beside s (room f h) = sends s f h
taken-beside s (no_room f h) = full s f h

-- a change that waits is made unless the frame finds no room
after-beside : {q : List Frame} {x y : QueueStep} (s : State) (e : Effect) → Joins q x y → Beside q (with_queue s q) (changed_after e (taken s x)) (changed_after e (taken s y))
unfolding changed_after
after-beside s e nothing = quiet 0 (changed s e) (λ z. omega arith)
after-beside s e (room f h) = sends (changed s e) f h
after-beside s e (no_room f h) = full (changed s e) f h

-- any reply: a request that becomes pending is so, whether 0x78 finds room or not
replied-beside : (limit : ℕ) (s : State) (to sid : ℕ) (now : Moment) (r : Reply)
    → Beside s.queue (with_queue (replied limit (with_queue s []) to sid now r).state s.queue) (replied limit (with_queue s []) to sid now r) (replied limit s to sid now r)
unfolding replied answered
replied-beside limit s to sid now silent = taken-beside s nothing
replied-beside limit s to sid now (positive p) = taken-beside s (confirmed_joins limit s.mode s.queue to sid p)
replied-beside limit s to sid now (negative code) = taken-beside s (refused_joins s.mode s.queue to sid code)
replied-beside limit s to sid now (always code) = taken-beside s (pushed_joins s.queue to (negative_frame sid code))
replied-beside limit s to sid now pends = taken-beside (awaiting s to sid now) (pushed_joins s.queue to (negative_frame sid 0x78))

-- an outcome is done: bytes, and no error
abbrev pub done : Outcome → Bool
done (bytes b) = true
done (error code) = false

-- an ECU reset that is done: the act that is asked is 11's, and its outcome is done
abbrev pub resets : ℕ → Request → Act → Bool
resets limit r a = eqb a.number 0x11 && done (outcome limit r.given)

-- an answer beside the same request's where no frame waits: the same act, and without room what is left there; a reset that is done leaves what was received
pub record Answers (limit : ℕ) (r : Request) (q : List Frame) (received : State) (lone a : Answer) : Type 0 where
  pub act : a.act ≡ lone.act
  pub step : Beside q (pick (resets limit r a.act) received (with_queue lone.step.state q)) lone.step a.step

-- the effect of a request's service on a state
module _ (limit : ℕ) (s : State) (r : Request) where
  abbrev applied : State → Effect → Step
  applied u e = apply limit u r.inbound.src (sid_of r.inbound.frame) r.inbound.time e

  -- what it leaves where no frame waits, with the frames that do
  abbrev alone : Effect → State
  alone e = with_queue (applied (with_queue s []) e).state s.queue

  abbrev Applied : State → Effect → Type 0
  Applied kept e = Beside s.queue kept (applied (with_queue s []) e) (applied s e)

  -- a change that does not wait is left where the reply finds no room
  stays_beside : (e : Effect) → e.waits ≡ false → Applied (alone e) e
  unfolding apply
  stays_beside e w = rw w (replied-beside limit (changed s e) r.inbound.src (sid_of r.inbound.frame) r.inbound.time e.reply)

  -- that of a reset waits, and is not
  reset-beside : (v : Seen) (b : List ℕ) → Applied s (reset v (bytes b))
  unfolding apply reset replied answered
  reset-beside v b = either After (suppressed v.payload) (after-beside s (reset v (bytes b)) nothing)
      (after-beside s (reset v (bytes b)) (confirmed_joins limit s.mode s.queue r.inbound.src (sid_of r.inbound.frame) (sub_function v.payload ∷ [])))
    where
      then : State → Reply → Step
      then u x = changed_after (reset v (bytes b)) (replied limit u r.inbound.src (sid_of r.inbound.frame) r.inbound.time x)

      After : Reply → Type 0
      After x = Beside s.queue s (then (with_queue s []) x) (then s x)

  -- a service's change does not wait, or it is that of a reset that is done
  data Waits (a : Served) : Type 0 where
    stays : a.effect.waits ≡ false → resets limit r a.act ≡ false → Waits a
    awaits : (v : Seen) (b : List ℕ) → a.effect ≡ reset v (bytes b) → resets limit r a.act ≡ true → Waits a

  -- 11 is refused, or its act decides
  waits_11 : (o : Option ServiceConfig) → Waits (guarded 0x11 (seen limit s r) o)
  unfolding guarded service service11 reset
  waits_11 none = stays refl refl
  waits_11 (some row) =
      either Waits (allowed_in s.session.session_type row)
      (either Waits (ltb (length (payload_of r.inbound.frame)) 1) (stays refl refl) (go (outcome limit r.given) refl)) (stays refl refl)
    where
      go : (o : Outcome) → outcome limit r.given ≡ o → Waits (asks 0x11 (part 1 1 ∷ []) (reset (seen limit s r) o))
      go (bytes b) e = awaits (seen limit s r) b refl (rw e)
      go (error code) e = stays refl (rw e)

  -- no other service asks 11's act, and the change of none waits
  waits : (sid : ℕ) (o : Option ServiceConfig) → Waits (guarded sid (seen limit s r) o)
  waits sid o = go (eqb sid 0x11) refl
    where
      v : Seen
      v = seen limit s r

      a : Served
      a = guarded sid v o

      go : (t : Bool) → eqb sid 0x11 ≡ t → Waits a
      go true e = rw (eqb-true sid 0x11 e) (waits_11 o)
      go false e =
          stays (change (at_guarded (Left v) v (untouched v) sid o).waits)
          (rw (ne_eqb a.act.number 0x11 (other (at_guarded (λ x b. Placed (suc (length v.payload)) x b.act) v (placed-each v) sid o).number)))
        where
          change : (a.effect.waits ≡ false) ⊎ (sid ≡ 0x11) → a.effect.waits ≡ false
          change (inl z) = z
          change (inr z) = absurd (eqb-false sid 0x11 e z)

          other : (a.act.number ≡ 0) ⊎ (a.act.number ≡ sid) → a.act.number ≡ 0x11 → ⊥
          other (inl z) f = omega arith
          other (inr z) f = eqb-false sid 0x11 e (sym z ∙ f)

  -- so a service's change waits exactly where it asks 11's act and that is done
  pub waits_exactly : (served limit s r).effect.waits ≡ resets limit r (served limit s r).act
  unfolding reset
  waits_exactly = go (waits (sid_of r.inbound.frame) (find_service s.config (sid_of r.inbound.frame)))
    where
      go : {a : Served} → Waits a → a.effect.waits ≡ resets limit r a.act
      go (stays w n) = w ∙ sym n
      go (awaits v b e n) = rw (e, n)

  -- without room a reset that is done leaves the state as it was, and any other service what is left where no frame waits
  serves : {a : Served} → Waits a → Applied (pick (resets limit r a.act) s (alone a.effect)) a.effect
  serves {a} (stays w n) = rw n (stays_beside a.effect w)
  serves (awaits v b e n) = rw (n, e) (reset-beside v b)

  -- a request that is heard: busy, of a length that does not fit, or served
  heard-beside : (o : Option PendingRequest) → Answers limit r s.queue s (heard limit (with_queue s []) r o) (heard limit s r o)
  unfolding heard queued
  heard-beside (some p) = record { act = refl; step = taken-beside s (pushed_joins s.queue r.inbound.dst (negative_frame (sid_of r.inbound.frame) 0x21)) }
  heard-beside none =
      alike (Answers limit r s.queue s) (length_fits r.inbound.frame)
      (record { act = refl; step = serves (waits (sid_of r.inbound.frame) (find_service s.config (sid_of r.inbound.frame))) })
      (record { act = refl; step = quiet 2 s (λ z. omega arith) })

-- the state as received: as it was, if the frame is foreign
abbrev pub as_received : State → Moment → Option AddressMode → State
as_received s now none = s
as_received s now (some m) = received s m now

-- a valid state is so with no frame waiting
alone_valid : (limit : ℕ) (s : State) → valid limit s ≡ true → valid limit (with_queue s []) ≡ true
alone_valid limit s v =
    let h = valid_parts limit s v in
    parts_valid limit (with_queue s []) (record { config = h.config; last_rx = h.last_rx; security = h.security; periodic = h.periodic; pending = h.pending; queue = refl })

-- of a valid state and at a time up to 2^48
module _ (limit : ℕ) (s : State) (v : valid limit s ≡ true) where
  -- where the step of a call that has no room leaves what the same call leaves with no frame waiting, beside it
  abbrev Stands : Step → Step → Type 0
  Stands lone p = Beside s.queue (with_queue lone.state s.queue) lone p

  -- a call that is neither 10 nor 6 stands so if what it does stands so
  gated : (now : Moment) (x y : Step) → now ≤ max_time → Stands x y
      → Stands (pick (valid limit (with_queue s [])) (pick (leb now max_time) x (step 6 (with_queue s []))) (step 10 (with_queue s [])))
      (pick (valid limit s) (pick (leb now max_time) y (step 6 s)) (step 10 s))
  gated now x y h b = rw (v, alone_valid limit s v, le-leb now max_time h) b

  -- complete stands so: the pending request has ended
  pub complete-beside : (now : Moment) (payload : List ℕ) → now ≤ max_time → Stands (complete limit (with_queue s []) now payload) (complete limit s now payload)
  unfolding complete completed confirmed
  complete-beside now payload h = gated now (completed limit (with_queue s []) payload s.pending) (completed limit s payload s.pending) h (go s.pending)
    where
      go : (o : Option PendingRequest) → Stands (completed limit (with_queue s []) payload o) (completed limit s payload o)
      go none = quiet 1 s (λ z. omega arith)
      go (some p) = taken-beside (with_pending s none) (confirmed_joins limit s.mode s.queue p.dst p.sid payload)

  -- and so does fail
  pub fail-beside : (now : Moment) (code : ℕ) → now ≤ max_time → Stands (fail limit (with_queue s []) now code) (fail limit s now code)
  unfolding fail failed queued
  fail-beside now code h = gated now (failed (with_queue s []) code s.pending) (failed s code s.pending) h (go s.pending)
    where
      go : (o : Option PendingRequest) → Stands (failed (with_queue s []) code o) (failed s code o)
      go none = quiet 1 s (λ z. omega arith)
      go (some p) = taken-beside (with_pending s none) (pushed_joins s.queue p.dst (negative_frame p.sid code))

  -- 3 is given by complete exactly where complete queues a frame with none waiting, and 16 wait
  pub complete_3_exactly : (now : Moment) (payload : List ℕ) → now ≤ max_time
      → ((complete limit s now payload).result ≡ 3) ↔ ((max_outbox ≤ length s.queue) × ((f : Frame) × ((complete limit (with_queue s []) now payload).state.queue ≡ f ∷ [])))
  complete_3_exactly now payload h = beside_3 (complete-beside now payload h)

  -- and leaves what is left there, with the frames that waited
  pub complete_3_leaves : (now : Moment) (payload : List ℕ) → now ≤ max_time → (complete limit s now payload).result ≡ 3
      → (complete limit s now payload).state ≡ with_queue (complete limit (with_queue s []) now payload).state s.queue
  complete_3_leaves now payload h = beside_3_leaves (complete-beside now payload h)

  -- another number leaves what is left there, its frame behind those that wait
  pub complete_else : (now : Moment) (payload : List ℕ) → now ≤ max_time → ((complete limit s now payload).result ≡ 3 → ⊥)
      → complete limit s now payload
      ≡ behind s.queue (complete limit (with_queue s []) now payload)
  complete_else now payload h = beside_else (complete-beside now payload h)

  -- 3 is given by fail exactly where fail queues a frame with none waiting, and 16 wait
  pub fail_3_exactly : (now : Moment) (code : ℕ) → now ≤ max_time
      → ((fail limit s now code).result ≡ 3) ↔ ((max_outbox ≤ length s.queue) × ((f : Frame) × ((fail limit (with_queue s []) now code).state.queue ≡ f ∷ [])))
  fail_3_exactly now code h = beside_3 (fail-beside now code h)

  -- and leaves what is left there, with the frames that waited
  pub fail_3_leaves : (now : Moment) (code : ℕ) → now ≤ max_time → (fail limit s now code).result ≡ 3
      → (fail limit s now code).state ≡ with_queue (fail limit (with_queue s []) now code).state s.queue
  fail_3_leaves now code h = beside_3_leaves (fail-beside now code h)

  -- another number leaves what is left there, its frame behind those that wait
  pub fail_else : (now : Moment) (code : ℕ) → now ≤ max_time → ((fail limit s now code).result ≡ 3 → ⊥) → fail limit s now code ≡ behind s.queue (fail limit (with_queue s []) now code)
  fail_else now code h = beside_else (fail-beside now code h)

  module _ (r : Request) (h : r.inbound.time ≤ max_time) where
    -- a request stands beside the same with no frame waiting: it asks the same act, and without room leaves what is left there, or the state as received
    pub request-beside : Answers limit r s.queue (as_received s r.inbound.time (addressed s.config r.inbound.dst)) (request limit (with_queue s []) r) (request limit s r)
    unfolding request routed
    request-beside = rw (v, alone_valid limit s v, le-leb r.inbound.time max_time h) (go (addressed s.config r.inbound.dst))
      where
        go : (o : Option AddressMode) → Answers limit r s.queue (as_received s r.inbound.time o) (routed limit (with_queue s []) r o) (routed limit s r o)
        go none = record { act = refl; step = quiet 0 s (λ z. omega arith) }
        go (some m) = heard-beside limit (received s m r.inbound.time) r s.pending

    -- 3 is given by a request exactly where the request queues a frame with none waiting, and 16 wait
    pub request_3_exactly : ((request limit s r).step.result ≡ 3)
        ↔ ((max_outbox ≤ length s.queue) × ((f : Frame) × ((request limit (with_queue s []) r).step.state.queue ≡ f ∷ [])))
    request_3_exactly = beside_3 request-beside.step

    -- and leaves what is left there, with the frames that waited, unless it is a reset that is done
    pub request_3_leaves : resets limit r (request limit s r).act ≡ false → (request limit s r).step.result ≡ 3
        → (request limit s r).step.state ≡ with_queue (request limit (with_queue s []) r).step.state s.queue
    request_3_leaves e z = beside_3_leaves request-beside.step z ∙ rw e

    -- which leaves the state as received
    pub reset_3_leaves : (m : AddressMode) → addressed s.config r.inbound.dst ≡ some m → resets limit r (request limit s r).act ≡ true → (request limit s r).step.result ≡ 3
        → (request limit s r).step.state ≡ received s m r.inbound.time
    reset_3_leaves m a e z = beside_3_leaves request-beside.step z ∙ rw (e, a)

    -- another number leaves what is left there, its frame behind those that wait
    pub request_else : ((request limit s r).step.result ≡ 3 → ⊥) → (request limit s r).step ≡ behind s.queue (request limit (with_queue s []) r).step
    request_else = beside_else request-beside.step

-- such requests, with 16 frames held and session 3: `11 01` gives 3 and leaves session 3; `10 01` gives 3 and leaves session 1; `11 81`, whose answer is
-- suppressed, gives 0 and leaves session 1; and `11 01` whose act gives 78 is pending, though 78 found no room
abbrev held : State
held = with_records (with_queue (fresh_state fixed_config) (replicate 16 (record { dst = 3712; bytes = 0x7E ∷ 0 ∷ [] }))) (opened fresh_session 3) fresh_security []

abbrev asked : List ℕ → ℕ → Step
asked frame err = (request max_frame held (asking (inbound 5 3712 16 frame) (record { err = err; bytes = [] }) empty_table)).step

abbrev session_after : Step → List ℕ
session_after p = p.result ∷ p.state.session.session_type ∷ []

pub eleven_waits : (session_after (asked (0x11 ∷ 1 ∷ []) 0) ≡ 3 ∷ 3 ∷ [])
    × (session_after (asked (0x10 ∷ 1 ∷ []) 0) ≡ 3 ∷ 1 ∷ [])
    × (session_after (asked (0x11 ∷ 0x81 ∷ []) 0) ≡ 0 ∷ 1 ∷ [])
    × ((asked (0x11 ∷ 1 ∷ []) 0x78).state.pending ≡ some (record { dst = 3712; sid = 0x11; deadline = 5005 }))
unfolding whole
eleven_waits = (refl, refl, refl, refl)
