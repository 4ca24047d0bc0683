use Rattle.std.proofs.Common.{arith, length, ◌≡◌, sym}
use Rattle.std.proofs.lemmas.List.Edits.{paste_more}
use Rattle.queue.proofs.Over.{pasted}
use Rattle.queue.proofs.write.Goals as goal

pub loop-i-preserved : goal.loop-i-preserved
loop-i-preserved c =
    let a = c.args in
    rw c.loop-i.invariant (paste_more a.buffer.now a.at a.bytes.now c.loop-i.i 0 (omega arith) (omega arith))

pub returns : goal.returns
returns c =
    let a = c.args in
    let e : c.loop-i.i ≡ length a.bytes.now = omega arith in
    rw (c.loop-i.invariant, e) (sym (pasted a.buffer.now a.at a.bytes.now))
