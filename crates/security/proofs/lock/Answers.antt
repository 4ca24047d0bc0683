use Rattle.security.proofs.Levels.{locks}
use Rattle.security.proofs.lock.Goals as goal

pub returns : goal.returns
returns c = let a = c.args in locks a.k.now c.enter.new.k a.level a.until.0 c.enter.result c.enter.ensures
