use Rattle.std.proofs.Common.{rules}
use Rattle.security.proofs.Storing.{cleared-all}
use Rattle.security.proofs.clear.Goals as goal

pub returns : goal.returns
returns c = cleared-all c.args.k.now c.wipe.new.k c.wipe.ensures (search rules)
