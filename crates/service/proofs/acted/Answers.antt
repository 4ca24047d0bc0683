use Rattle.std.proofs.Common.{◌++◌}
use Rattle.service.proofs.Laws.{acted-error}
use Rattle.service.proofs.acted.Goals as goal

pub returns-in-Err : goal.returns-in-Err
returns-in-Err c = let a = c.args in
    rw c.in-Err.is (acted-error a.frames a.room.now a.suppress (a.head.now ++ a.tail.now) c.in-Err.code c.refusal.result (c.refusal.ensures _ _))
