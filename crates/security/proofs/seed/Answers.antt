use Rattle.std.proofs.Common.{arith, rules}
use Rattle.security.proofs.Storing.{seed-held}
use Rattle.security.proofs.seed.Goals as goal

pub returns : goal.returns
returns c = let a = c.args in rw c.from.ensures (seed-held a.k.now c.fill.new.k c.wipe.new.k a.bytes.now a.level c.fill.ensures c.wipe.ensures (omega arith) (search rules))
