use Rattle.std.proofs.Common.{sym, ◌∙◌}
use Rattle.uds.specs.Result.{result_of}
use Rattle.ticking.proofs.Steps.{anew}
use Rattle.ticking.proofs.refreshed.Goals as goal

pub returns-clause-refreshes : goal.returns-clause-refreshes
returns-clause-refreshes c = let a = c.args in
    let o = a.outbox.now in
    let n = c.negative-done.new.self in
    anew a.config.now a.session a.pending o.count o.heads.now o.room.now a.t.0 c.awaiting-anew.result (result_of c.negative-done.result) n.count n.heads.now n.room.now (sym c.is_due.ensures ∙ c.if-not-is_due.false) c.awaiting-anew.ensures c.negative-done.ensures.step
