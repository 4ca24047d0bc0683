use Rattle.std.proofs.Common.{[], arith, ◌∷◌}
use Rattle.queue.proofs.Room.{stands}
use Rattle.queue.proofs.Laws.{queues}
use Rattle.queue.proofs.reply.Outbox.negative.Goals as goal

pub returns-clause-step : goal.returns-clause-step
returns-clause-step c =
    let a = c.args in
    rw c.push.ensures.kept (queues (stands _ _ _ _ (omega arith) c.place-at.ensures (0x7F ∷ a.sid ∷ a.code ∷ []) (omega arith) c.write.ensures) c.push.ensures.pushes)
