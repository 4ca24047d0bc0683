use Rattle.access.proofs.Keys.{accepts-key}
use Rattle.access.proofs.service27.accept.Goals as goal

pub returns : goal.returns
returns c = accepts-key c.requires.1 c.reset.ensures c.clear.ensures c.joined.ensures
