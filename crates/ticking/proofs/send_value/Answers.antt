use Rattle.ticking.proofs.Walk.{exceeds}
use Rattle.ticking.proofs.send_value.Goals as goal

pub returns-in-None-clause-step : goal.returns-in-None-clause-step
returns-in-None-clause-step c = let a = c.args in
    let o = a.outbox.now in
    exceeds o.count a.to a.first o.heads.now o.room.now a.value.now c.extend.new.room (rw c.in-None.is at c.extend.ensures)
