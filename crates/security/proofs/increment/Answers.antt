use Rattle.std.proofs.Common.{arith}
use Rattle.security.proofs.Levels.{counts}
use Rattle.security.proofs.increment.Goals as goal

pub returns : goal.returns
returns c =
    let a = c.args in
    counts a.k.now c.enter.new.k a.level c.min-count.result c.enter.result c.enter.ensures (omega arith)
