use Rattle.std.proofs.Common.{refl}
use Rattle.model.specs.Numbers.{max_frame}
use Rattle.model.specs.State.{valid}
use Rattle.state.specs.View.{state_of}
use Rattle.uds.proofs.Refusals.{told_why, told_no_other, no_zero}
use Rattle.entry.proofs.Gate.{told_so}
use Rattle.calls.proofs.Asked.{barred, foreign, misfit, carried_out}
use Rattle.calls.proofs.request.request.Goals as goal

pub returns-in-Err : goal.returns-in-Err
returns-in-Err c = let a = c.args in
    barred a.config.now a.s a.k.now a.subs.now a.heads.now a.room.now a.t.0 a.src a.dst a.frame.now a.err a.given.now a.values.now a.pool.now c.from.result (told_so (valid max_frame (state_of a.config.now a.s a.k.now a.subs.now a.heads.now a.room.now)) c.is_valid-valid.result a.t.0 c.from.result c.is_valid-valid.ensures (told_why c.in-Err.is c.barred.ensures c.from.ensures)) (no_zero c.in-Err.why c.from.ensures) c.unasked.result c.unasked.ensures

pub returns-in_default-addressed : goal.returns-in_default-addressed
returns-in_default-addressed c = let a = c.args in
    foreign a.config.now a.s a.k.now a.subs.now a.heads.now a.room.now a.t.0 a.src a.dst a.frame.now a.err a.given.now a.values.now a.pool.now 0 (told_so (valid max_frame (state_of a.config.now a.s a.k.now a.subs.now a.heads.now a.room.now)) c.is_valid-valid.result a.t.0 0 c.is_valid-valid.ensures (told_no_other c.barred.result c.in_default.not-Err c.barred.ensures)) refl c.addressed.result c.addressed.ensures c.in_default-addressed.is c.unasked-in_default-addressed.result c.unasked-in_default-addressed.ensures

pub returns-then-misfits : goal.returns-then-misfits
returns-then-misfits c = let a = c.args in
    misfit a.config.now a.s a.k.now a.subs.now a.heads.now a.room.now a.t.0 a.src a.dst a.frame.now a.err a.given.now a.values.now a.pool.now 0 (told_so (valid max_frame (state_of a.config.now a.s a.k.now a.subs.now a.heads.now a.room.now)) c.is_valid-valid.result a.t.0 0 c.is_valid-valid.ensures (told_no_other c.barred.result c.in_default.not-Err c.barred.ensures)) refl c.addressed.result c.addressed.ensures c.in-Some.functional c.in-Some.is c.heard.result c.misfits.result c.misfits.ensures c.if-misfits.true c.heard.ensures c.unasked-then-misfits.result c.unasked-then-misfits.ensures

pub returns : goal.returns
returns c = let a = c.args in
    carried_out a.config.now a.s a.k.now a.subs.now a.heads.now a.room.now a.t.0 a.src a.dst a.frame.now a.err a.given.now a.values.now a.pool.now 0 (told_so (valid max_frame (state_of a.config.now a.s a.k.now a.subs.now a.heads.now a.room.now)) c.is_valid-valid.result a.t.0 0 c.is_valid-valid.ensures (told_no_other c.barred.result c.in_default.not-Err c.barred.ensures)) refl c.addressed.result c.addressed.ensures c.in-Some.functional c.in-Some.is c.wanted-w.result c.reply_to.result c.sid-sid.result c.wanted-w.new.k c.wanted-w.new.subs c.wanted-w.new.room c.apply-a.result c.apply-a.new.k c.apply-a.new.heads c.apply-a.new.room c.misfits.result c.misfits.ensures c.if-misfits.false c.sid-sid.ensures c.reply_to.ensures (rw c.payload.ensures at c.wanted-w.ensures) c.apply-a.ensures
