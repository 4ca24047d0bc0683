use Rattle.std.proofs.Common.{refl}
use Rattle.uds.specs.Result.{result_of}
use Rattle.queue.specs.View.{mode_of}
use Rattle.uds.proofs.Refusals.{told_why, told_no_other, no_zero}
use Rattle.calls.proofs.Ended.{complete-barred, completes, confirmed_so}
use Rattle.calls.proofs.pending.complete.Goals as goal

pub returns-in-Err : goal.returns-in-Err
returns-in-Err c = let a = c.args in
    complete-barred a.config.now a.s a.k.now a.subs.now a.heads.now a.room.now a.t.0 c.is_valid-valid.result c.from.result c.is_valid-valid.ensures (told_why c.in-Err.is c.barred.ensures c.from.ensures) a.payload.now (no_zero c.in-Err.why c.from.ensures)

pub returns : goal.returns
returns c = let a = c.args in
    let said = confirmed_so (mode_of a.s.functional) a.s.frames a.heads.now a.room.now c.extend-made.new.room a.s.pending.dst a.s.pending.sid a.payload.now _ _ _ c.extend-made.ensures.unseen c.extend-made.ensures.reading (c.said-reply.ensures _ _) c.answered-p.ensures in
    completes a.config.now a.s a.k.now a.subs.now a.heads.now a.room.now a.t.0 c.is_valid-valid.result 0 c.is_valid-valid.ensures (told_no_other c.barred.result c.in_default.not-Err c.barred.ensures) a.payload.now refl c.number.result (result_of c.answered-p.result.done) c.answered-p.result.count c.ended.result c.answered-p.new.heads c.answered-p.new.room c.number.ensures said c.ended.ensures
