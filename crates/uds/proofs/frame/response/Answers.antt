-- The bit is added where it is not set.
use Rattle.model.specs.Frame.{response}
use Rattle.uds.proofs.Bits.{bit6_set}
use Rattle.uds.proofs.frame.response.Goals as goal

pub returns : goal.returns
unfolding response
returns c = bit6_set c.args.sid
