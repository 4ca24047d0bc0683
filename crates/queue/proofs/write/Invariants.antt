-- The invariant: the bytes so far stand in their places, the rest as it was.
use Rattle.std.proofs.Common.{◌≡◌}
use Rattle.std.proofs.Math.Seq.{paste}
use Rattle.queue.proofs.write.Given as goal

abbrev pub invariant-loop-i : goal.invariant-loop-i
invariant-loop-i l = l.buffer ≡ paste l.initial.buffer l.at l.bytes l.i
