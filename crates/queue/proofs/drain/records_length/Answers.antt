use Rattle.std.proofs.Common.{arith}
use Rattle.queue.specs.View.{frame_at}
use Rattle.queue.proofs.Records.{frame-length, left_length}
use Rattle.queue.proofs.drain.records_length.Goals as goal

pub loop-i-preserved : goal.loop-i-preserved
loop-i-preserved c =
    let a = c.args in
    let l = c.loop-i in (
      omega (arith, c.requires.each l.i c.loop-i-test.true),
      λ room z. omega (arith, l.invariant.1 room z, left_length (frame_at a.heads.now room) a.n l.i c.loop-i-test.true, frame-length a.heads.now room z l.i (omega (arith, c.requires.few))),
    )
