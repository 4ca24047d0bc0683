-- What complete and fail ask first, and what the end of a pending request leaves.
use Rattle.std.specs.Prelude.{ℕ, ◌≡◌, List, Bool, nat_le}
use Rattle.std.proofs.Math.Option.{none}
use Rattle.model.specs.Tests.{pick}
use Rattle.model.specs.Numbers.{Moment, max_time}
use Rattle.model.specs.State.{with_pending, with_queue}
use Rattle.queue.specs.View.{queue_of}
use Rattle.state.specs.View.{state_of}
use Rattle.state.specs.declared.State.{State}

-- 10, then 6, then 1 where no request is pending; else 0
unfoldable pub ending : Bool → Bool → Moment → ℕ
ending valid on t = pick valid (pick (nat_le t max_time) (pick on 0 1) 6) 10

-- nothing is pending, and the queue is that of a count, whatever is lent
pub record Ends (s : State) (frames : ℕ) (r : State) : Type 0 where
  pub state : (config k subs heads room heads' room' : List ℕ) → state_of config r k subs heads' room' ≡ with_queue (with_pending (state_of config s k subs heads room) none) (queue_of frames heads' room')
