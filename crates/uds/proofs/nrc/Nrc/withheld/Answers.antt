-- The slice's own search is the definition's membership.
use Rattle.std.proofs.Common.{◌∙◌}
use Rattle.model.specs.Queue.{functionally_suppressed, withheld}
use Rattle.uds.proofs.Lists.{any_memb}
use Rattle.uds.proofs.nrc.Nrc.withheld.Goals as goal

pub returns : goal.returns
unfolding withheld
returns c = c.contains.ensures.value ∙ any_memb c.args.self.0 functionally_suppressed
