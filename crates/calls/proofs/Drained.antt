-- A drain of the queue is one of the state, where that is valid.
use mathlib.Core.Path.{◌≡◌, ap, ◌∙◌}
use mathlib.Core.Bool.{Bool, true, false, not}
use borrow.Author.Tests.{not-true, not-false}
use mathlib.Core.List.{List}
use Prim.Native.Nat.{ℕ}
use Rattle.model.specs.Numbers.{max_frame}
use Rattle.model.specs.State.{State, valid}
use Rattle.model.specs.Queue.{QueueDrain, drained}
use Rattle.model.specs.Drain.{drain, emptied, unmoved}

module _ (s : State) (buffer : List ℕ) where
  pub not-drained : (b : Bool) → b ≡ valid max_frame s → not b ≡ true → unmoved 10 s buffer ≡ drain max_frame s buffer
  unfolding drain
  not-drained b v z = rw (← v, not-true b z)

  pub drained_so : (d : QueueDrain) (b : Bool) → b ≡ valid max_frame s → not b ≡ false → d ≡ drained max_frame s.queue buffer → emptied s d ≡ drain max_frame s buffer
  unfolding drain
  drained_so d b v z e = ap (emptied s) e ∙ rw (← v, not-false b z)
