use Rattle.std.proofs.Common.{length, ◌+◌, ◌-◌, ◌≡◌, ◌≤◌}
use Rattle.model.specs.Queue.{records}
use Rattle.uds.specs.Table.{tab}
use Rattle.queue.specs.Over.{over}
use Rattle.queue.specs.View.{frame_at, queue_of}
use Rattle.queue.proofs.drain.write_records.Given as goal

abbrev pub invariant-loop-i : goal.invariant-loop-i
invariant-loop-i l = (l.at + length (records (tab (frame_at l.heads l.room) l.i (l.n - l.i))) ≤ length l.initial.out) × (over l.out l.at (records (tab (frame_at l.heads l.room) l.i (l.n - l.i))) ≡ over l.initial.out 0 (records (queue_of l.n l.heads l.room)))
