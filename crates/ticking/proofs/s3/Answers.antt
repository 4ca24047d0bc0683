use Rattle.ticking.proofs.Steps.{lapses, stays}
use Rattle.ticking.proofs.s3.Goals as goal

pub returns-then-lapsed : goal.returns-then-lapsed
returns-then-lapsed c = let a = c.args in lapses a.config.now a.session a.t.0 c.expired-lapsed.result c.expired-lapsed.ensures a.k.now c.settle.new.k c.settle.ensures c.opened.result c.if-lapsed.true c.opened.ensures

pub returns : goal.returns
returns c = let a = c.args in stays a.config.now a.session a.t.0 c.expired-lapsed.result c.expired-lapsed.ensures a.k.now c.settle.new.k c.settle.ensures c.if-lapsed.false
