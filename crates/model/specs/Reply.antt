-- Replies: an error byte as a reply, and what the queue does with a reply taken into the state.
use Rattle.std.specs.Prelude.{ℕ, ◌+◌, List, nat_eq}
use Rattle.std.proofs.Math.Option.{some}
use Rattle.model.specs.Tests.{pick}
use Rattle.model.specs.Numbers.{Moment}
use Rattle.model.specs.Config.{find_session, p2_ext_of}
use Rattle.model.specs.State.{State, Step, step, with_queue, with_pending}
use Rattle.model.specs.Queue as Queue
use Rattle.model.specs.Queue.{QueueStep, Reply, silent, positive, negative, always, pends, pushed, pended, answered}

-- an error byte is sent as the negative code; 0x78 makes the request pending
unfoldable pub refusal : ℕ → Reply
refusal code = pick (nat_eq code 0x78) pends (negative code)

-- a step of the queue taken into the state: where its result is 3 the queue is unchanged, and earlier changes stay
abbrev pub taken : State → QueueStep → Step
taken s p = step p.result (with_queue s p.queue)

-- a frame queued
unfoldable pub queued : State → ℕ → List ℕ → Step
queued s to bytes = taken s (pushed s.queue to bytes)

-- a positive frame, or 0x14
unfoldable pub confirmed : ℕ → State → ℕ → ℕ → List ℕ → Step
confirmed limit s to sid p = taken s (Queue.confirmed limit s.mode s.queue to sid p)

-- the request becomes pending, its deadline now plus P2* of the session
abbrev pub awaiting : State → ℕ → ℕ → Moment → State
awaiting s to sid now = with_pending s (some (record { dst = to; sid = sid; deadline = now + p2_ext_of (find_session s.config s.session.session_type) }))

-- and then 0x78 is queued
unfoldable pub begun : State → ℕ → ℕ → Moment → Step
begun s to sid now = taken (awaiting s to sid now) (pended s.queue to sid)

-- the state in which a reply is queued: a request that becomes pending is so before 0x78
abbrev pub readied : State → ℕ → ℕ → Moment → Reply → State
readied s to sid now silent = s
readied s to sid now (positive p) = s
readied s to sid now (negative code) = s
readied s to sid now (always code) = s
readied s to sid now pends = awaiting s to sid now

-- a reply, to whom, for which service, when
unfoldable pub replied : ℕ → State → ℕ → ℕ → Moment → Reply → Step
replied limit s to sid now r = taken (readied s to sid now r) (answered limit s.mode s.queue to sid r)
