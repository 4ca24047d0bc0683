use Rattle.std.proofs.Common.{◌≡◌, ◌&&◌, ◌∙◌}
use Rattle.uds.specs.Result.{result_of}
use Rattle.state.proofs.Applied.{applied_told}
use Rattle.state.proofs.apply.changed.Goals as goal
use Rattle.state.proofs.apply.changed.Goals.{then-made, else-made}

pub returns-clause-applies : goal.returns-clause-applies
returns-clause-applies c = let a = c.args in
    let n = c.replied-said.new.outbox in
    let clears : c.if-made.settle ≡ (c.is_made-made.result && a.e.clears_seed) = elim c.if-made.branch [ then-made w ↦ rw w.if-made.true w.settle-is | else-made w ↦ rw w.if-made.false (w.settle-is ∙ w.if-made.false) ] in
    applied_told a.config.now a.s a.k.now a.outbox.now.heads.now a.outbox.now.room.now a.asker.to a.asker.sid a.t.0 a.asker.functional a.e c.replied-said.result.pending (result_of c.replied-said.result.done) n.count c.settle.new.k n.heads.now n.room.now c.number.result c.chosen-at.result c.is_made-made.result c.if-made.settle c.chosen.result c.chosen-2.result c.chosen-3.result
    c.number.ensures c.chosen-at.ensures (rw c.requires c.replied-said.ensures.replies) c.is_made-made.ensures clears c.settle.ensures c.chosen.ensures c.chosen-2.ensures c.chosen-3.ensures
