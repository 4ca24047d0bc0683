-- The tests are the definition's, in its order.
use Rattle.std.proofs.Common.{rules}
use Rattle.model.specs.State as Model
use Rattle.state.proofs.valid.is_valid.Goals as goal

pub returns-then-is_valid-3 : goal.returns-then-is_valid-3
unfolding Model.valid
returns-then-is_valid-3 c = search rules

pub returns-else-is_valid-3 : goal.returns-else-is_valid-3
unfolding Model.valid
returns-else-is_valid-3 c = search rules
