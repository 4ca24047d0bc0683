use Rattle.std.proofs.Common.{ap, arith, length, ◌+◌, ◌≡◌}
use Rattle.queue.specs.View.{frame_at}
use Rattle.queue.proofs.Records.{frame-length, frame-part, left_length, write_turn, all-written}
use Rattle.queue.proofs.drain.write_records.Goals as goal

pub write_record-at-requires : goal.write_record-at-requires
write_record-at-requires c =
    let a = c.args in
    let l = c.loop-i in
    let w = ap length (frame-part a.heads.now a.room.now l.i c.frame_length.result c.frame_length.ensures (omega (arith, c.requires.0.each l.i c.loop-i-test.true))) in
    let k = frame-length a.heads.now a.room.now c.requires.1 l.i (omega (arith, c.requires.0.few)) in
    (omega (arith, c.requires.0.each l.i c.loop-i-test.true), omega (arith, left_length (frame_at a.heads.now a.room.now) a.n l.i c.loop-i-test.true))

pub loop-i-preserved : goal.loop-i-preserved
loop-i-preserved c =
    let a = c.args in
    let l = c.loop-i in
    let f = frame_at a.heads.now a.room.now in
    let w = frame-part a.heads.now a.room.now l.i c.frame_length.result c.frame_length.ensures (omega (arith, c.requires.0.each l.i c.loop-i-test.true)) in
    let r = c.write_record-at.ensures in
    let at : c.write_record-at.result ≡ l.at + (8 + length (f l.i).bytes) = omega (arith, ap length w) in (
      omega (arith, left_length f a.n l.i c.loop-i-test.true),
      write_turn f a.n l.i c.loop-i-test.true l.at c.write_record-at.result l.out c.write_record-at.new.out _ (omega arith) at (rw (w, c.head_word.ensures) at r.0) l.invariant.1,
    )

pub returns : goal.returns
returns c =
    let a = c.args in
    let l = c.loop-i in
    all-written (frame_at a.heads.now a.room.now) a.n l.i l.at l.out _ (omega arith) l.invariant.1
