use Rattle.std.proofs.Common.{sym, ◌∙◌}
use Rattle.uds.specs.Result.{result_of}
use Rattle.state.proofs.Applied.{reply-kept, reply-pends}
use Rattle.state.proofs.apply.replied.Goals as goal

pub returns-then-pends-clause-replies : goal.returns-then-pends-clause-replies
returns-then-pends-clause-replies c = let a = c.args in
    let o = a.outbox.now in
    let n = c.answer-done.new.self in
    reply-pends a.config.now a.session a.pending o.count a.asker.functional o.heads.now o.room.now a.asker.to a.asker.sid a.t.0 a.reply (result_of c.answer-done.result) n.count n.heads.now n.room.now c.answer-done.ensures.step c.awaiting.result (sym c.pends.ensures ∙ c.if-pends.true) c.awaiting.ensures

pub returns-else-pends-clause-replies : goal.returns-else-pends-clause-replies
returns-else-pends-clause-replies c = let a = c.args in
    let o = a.outbox.now in
    let n = c.answer-done.new.self in
    reply-kept a.config.now a.session a.pending o.count a.asker.functional o.heads.now o.room.now a.asker.to a.asker.sid a.t.0 a.reply (result_of c.answer-done.result) n.count n.heads.now n.room.now c.answer-done.ensures.step (sym c.pends.ensures ∙ c.if-pends.false)
