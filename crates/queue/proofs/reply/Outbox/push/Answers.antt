use Rattle.std.proofs.Common.{arith}
use Rattle.queue.proofs.Room.{push_free}
use Rattle.queue.proofs.reply.Outbox.push.Goals as goal

pub returns-clause-pushes : goal.returns-clause-pushes
returns-clause-pushes c =
    let a = c.args in
    rw c.from-at.ensures (record { step = λ room. push_free a.self.now.count a.to a.len a.self.now.heads.now room c.if-self-ge-OUTBOX.false (omega arith) })
