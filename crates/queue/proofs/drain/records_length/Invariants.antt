use Rattle.std.proofs.Common.{List, length, ℕ, ◌*◌, ◌+◌, ◌-◌, ◌≡◌, ◌≤◌}
use Rattle.model.specs.Queue.{records}
use Rattle.uds.specs.Table.{tab}
use Rattle.queue.specs.View.{room_size, frame_at, queue_of}
use Rattle.queue.proofs.drain.records_length.Given as goal

abbrev pub invariant-loop-i : goal.invariant-loop-i
invariant-loop-i l = (l.total ≤ 264 * l.i) × ((room : List ℕ) → length room ≡ room_size → l.total + length (records (tab (frame_at l.heads room) l.i (l.n - l.i))) ≡ length (records (queue_of l.n l.heads room)))
