-- What a push answers to C, as a step of the definition's queue.
use Rattle.std.specs.Prelude.{ℕ, List}
use Rattle.model.specs.Queue.{QueueStep}
use Rattle.queue.specs.View.{queue_of}
use Rattle.queue_bench.specs.declared.Pushed.{Pushed}

abbrev pub step_of : Pushed → List ℕ → List ℕ → QueueStep
step_of p heads room = record { result = p.result; queue = queue_of p.count heads room }
