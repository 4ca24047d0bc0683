use Rattle.std.proofs.Common.{refl}
use Rattle.model.specs.Numbers.{max_frame}
use Rattle.model.specs.State.{valid}
use Rattle.state.specs.View.{state_of}
use Rattle.uds.proofs.Refusals.{told_why, told_no_other, no_zero}
use Rattle.entry.proofs.Gate.{told_so}
use Rattle.calls.proofs.Questioned.{asked-barred, asked_foreign, asked_misfit, asked_busy, asked_idle}
use Rattle.calls.proofs.question.question.Goals as goal

pub returns-in-Err : goal.returns-in-Err
returns-in-Err c = let a = c.args in
    asked-barred a.config.now a.s a.k.now a.subs.now a.heads.now a.room.now a.t.0 a.src a.dst a.frame.now c.from.result (told_so (valid max_frame (state_of a.config.now a.s a.k.now a.subs.now a.heads.now a.room.now)) c.is_valid-valid.result a.t.0 c.from.result c.is_valid-valid.ensures (told_why c.in-Err.is c.barred.ensures c.from.ensures)) (no_zero c.in-Err.why c.from.ensures) c.nothing.result c.nothing.ensures

pub returns-in_default-addressed : goal.returns-in_default-addressed
returns-in_default-addressed c = let a = c.args in
    asked_foreign a.config.now a.s a.k.now a.subs.now a.heads.now a.room.now a.t.0 a.src a.dst a.frame.now 0 (told_so (valid max_frame (state_of a.config.now a.s a.k.now a.subs.now a.heads.now a.room.now)) c.is_valid-valid.result a.t.0 0 c.is_valid-valid.ensures (told_no_other c.barred.result c.in_default.not-Err c.barred.ensures)) refl c.addressed.result c.addressed.ensures c.in_default-addressed.is c.nothing-in_default-addressed.result c.nothing-in_default-addressed.ensures

pub returns-then-misfits : goal.returns-then-misfits
returns-then-misfits c = let a = c.args in
    asked_misfit a.config.now a.s a.k.now a.subs.now a.heads.now a.room.now a.t.0 a.src a.dst a.frame.now 0 (told_so (valid max_frame (state_of a.config.now a.s a.k.now a.subs.now a.heads.now a.room.now)) c.is_valid-valid.result a.t.0 0 c.is_valid-valid.ensures (told_no_other c.barred.result c.in_default.not-Err c.barred.ensures)) refl c.addressed.result c.addressed.ensures c.in-Some.field-0 c.in-Some.is c.misfits.result c.misfits.ensures c.if-misfits.true c.nothing-then-misfits.result c.nothing-then-misfits.ensures

pub returns-then-on : goal.returns-then-on
returns-then-on c = let a = c.args in
    asked_busy a.config.now a.s a.k.now a.subs.now a.heads.now a.room.now a.t.0 a.src a.dst a.frame.now 0 (told_so (valid max_frame (state_of a.config.now a.s a.k.now a.subs.now a.heads.now a.room.now)) c.is_valid-valid.result a.t.0 0 c.is_valid-valid.ensures (told_no_other c.barred.result c.in_default.not-Err c.barred.ensures)) refl c.addressed.result c.addressed.ensures c.in-Some.field-0 c.in-Some.is c.misfits.result c.misfits.ensures c.if-misfits.false c.if-on.true c.nothing-then-on.result c.nothing-then-on.ensures

pub returns : goal.returns
returns c = let a = c.args in
    asked_idle a.config.now a.s a.k.now a.subs.now a.heads.now a.room.now a.t.0 a.src a.dst a.frame.now 0 (told_so (valid max_frame (state_of a.config.now a.s a.k.now a.subs.now a.heads.now a.room.now)) c.is_valid-valid.result a.t.0 0 c.is_valid-valid.ensures (told_no_other c.barred.result c.in_default.not-Err c.barred.ensures)) refl c.addressed.result c.addressed.ensures c.in-Some.field-0 c.in-Some.is c.misfits.result c.misfits.ensures c.if-misfits.false c.if-on.false c.sid.result c.payload.result.now c.asked.result c.sid.ensures c.payload.ensures c.asked.ensures
