use Rattle.service.proofs.Laws.{nothing, something}
use Rattle.service.proofs.Part.of.Goals as goal

pub returns-then-len-eq0 : goal.returns-then-len-eq0
returns-then-len-eq0 c = nothing c.args.start c.args.len c.if-len-eq0.true

pub returns : goal.returns
returns c = something c.args.start c.args.len c.if-len-eq0.false
