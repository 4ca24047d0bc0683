use Rattle.std.proofs.Common.{arith}
use Rattle.queue.proofs.Room.{grows}
use Rattle.queue.proofs.draft.extend.Goals as goal

pub returns : goal.returns
returns c = grows _ _ _ _ c.told-room _ _ _ (omega arith) (omega arith) c.place.ensures c.write.ensures
