use Rattle.service.specs.Seen.{handed}
use Rattle.service.proofs.Laws.{acts}
use Rattle.transfer.proofs.service37.service37.Goals as goal

pub returns : goal.returns
returns c = λ v. c.answered.ensures _ _ _ (c.ask37.ensures (handed _ _ v)) (acts _ _ _ _ _ _ _ c.outcome-outcome.ensures (cc))
