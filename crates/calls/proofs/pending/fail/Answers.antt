use Rattle.std.proofs.Common.{refl}
use Rattle.uds.specs.Result.{result_of}
use Rattle.uds.proofs.Refusals.{told_why, told_no_other, no_zero}
use Rattle.calls.proofs.Ended.{fail-barred, fails}
use Rattle.calls.proofs.pending.fail.Goals as goal

pub returns-in-Err : goal.returns-in-Err
returns-in-Err c = let a = c.args in
    fail-barred a.config.now a.s a.k.now a.subs.now a.heads.now a.room.now a.t.0 c.is_valid-valid.result c.from.result c.is_valid-valid.ensures (told_why c.in-Err.is c.barred.ensures c.from.ensures) a.code (no_zero c.in-Err.why c.from.ensures)

pub returns : goal.returns
returns c = let a = c.args in
    fails a.config.now a.s a.k.now a.subs.now a.heads.now a.room.now a.t.0 c.is_valid-valid.result 0 c.is_valid-valid.ensures (told_no_other c.barred.result c.in_default.not-Err c.barred.ensures) a.code refl c.number.result (result_of c.answered-p.result.done) c.answered-p.result.count c.ended.result c.answered-p.new.heads c.answered-p.new.room c.number.ensures c.answered-p.ensures c.ended.ensures
