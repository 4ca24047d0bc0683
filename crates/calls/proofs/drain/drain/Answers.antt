use Rattle.std.proofs.Common.{not, ap}
use Rattle.state.specs.View.{state_of}
use Rattle.calls.proofs.Drained.{not-drained, drained_so}
use Rattle.calls.proofs.drain.drain.Goals as goal

pub returns-then-not-is_valid : goal.returns-then-not-is_valid
returns-then-not-is_valid c = let a = c.args in
    not-drained (state_of a.config.now a.s a.k.now a.subs.now a.heads.now a.room.now) a.out.now c.is_valid.result c.is_valid.ensures (ap not c.if-not-is_valid.true)

pub returns : goal.returns
returns c = let a = c.args in
    drained_so (state_of a.config.now a.s a.k.now a.subs.now a.heads.now a.room.now) a.out.now _ c.is_valid.result c.is_valid.ensures (ap not c.if-not-is_valid.false) c.drain-d.ensures
