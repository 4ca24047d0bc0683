-- Drain: the waiting frames as records in a lent buffer.
use Rattle.std.specs.Prelude.{ℕ, List}
use Rattle.model.specs.Tests.{pick}
use Rattle.model.specs.State.{State, Step, valid}
use Rattle.model.specs.Queue as Queue
use Rattle.model.specs.Queue.{QueueDrain, leaves, drained}
use Rattle.model.specs.Reply.{taken}

-- the result and state, the number of frames written (0 if refused), and the buffer afterwards
pub record Drained : Type 0 where
  pub step : Step
  pub count : ℕ
  pub buffer : List ℕ

-- a drain of the queue taken into the state
abbrev pub emptied : State → QueueDrain → Drained
emptied s d = record { step = taken s (leaves d.result d.queue); count = d.frames; buffer = d.buffer }

-- all unchanged, no frame written
abbrev pub unmoved : ℕ → State → List ℕ → Drained
unmoved n s buffer = emptied s (Queue.unmoved n s.queue buffer)

-- 10 where the state is not valid; else its queue is valid too, and is drained, or 5
unfoldable pub drain : ℕ → State → List ℕ → Drained
drain limit s buffer = pick (valid limit s) (emptied s (drained limit s.queue buffer)) (unmoved 10 s buffer)
