use Rattle.std.proofs.Common.{List, length, ℕ, ◌-◌, ◌≡◌}
use Rattle.model.specs.Tests.{all}
use Rattle.model.specs.Numbers.{max_frame, max_outbox}
use Rattle.model.specs.Config.{table_within}
use Rattle.model.specs.State.{frame_valid}
use Rattle.uds.specs.Table.{tab}
use Rattle.queue.specs.View.{room_size, frame_at, queue_of}
use Rattle.queue.proofs.drain.heads_valid.Given as goal

abbrev pub invariant-loop-i : goal.invariant-loop-i
invariant-loop-i l = (room : List ℕ) → length room ≡ room_size → table_within max_outbox (frame_valid max_frame) (queue_of l.count l.heads room) ≡ all (frame_valid max_frame) (tab (frame_at l.heads room) l.i (l.count - l.i))
