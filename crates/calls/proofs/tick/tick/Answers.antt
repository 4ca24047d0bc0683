use Rattle.std.proofs.Common.{refl}
use Rattle.model.specs.Numbers.{max_frame}
use Rattle.model.specs.State.{valid}
use Rattle.state.specs.View.{state_of}
use Rattle.uds.proofs.Refusals.{told_why, told_no_other, no_zero}
use Rattle.entry.proofs.Gate.{told_so}
use Rattle.calls.proofs.Ticks.{tick-barred}
use Rattle.calls.proofs.tick.tick.Goals as goal

pub returns-in-Err : goal.returns-in-Err
returns-in-Err c = let a = c.args in
    tick-barred a.config.now a.s a.k.now a.subs.now a.heads.now a.room.now a.t.0 a.values.now a.pool.now c.from.result (told_so (valid max_frame (state_of a.config.now a.s a.k.now a.subs.now a.heads.now a.room.now)) c.is_valid-valid.result a.t.0 c.from.result c.is_valid-valid.ensures (told_why c.in-Err.is c.barred.ensures c.from.ensures)) (no_zero c.in-Err.why c.from.ensures)

pub steps-requires : goal.steps-requires
steps-requires c = let a = c.args in
    (refl, told_so (valid max_frame (state_of a.config.now a.s a.k.now a.subs.now a.heads.now a.room.now)) c.is_valid-valid.result a.t.0 0 c.is_valid-valid.ensures (told_no_other c.barred.result c.in_default.not-Err c.barred.ensures))
