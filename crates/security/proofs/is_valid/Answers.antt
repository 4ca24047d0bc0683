use Rattle.std.proofs.Common.{arith}
use Rattle.security.proofs.Levels.{valid_by}
use Rattle.security.proofs.is_valid.Goals as goal

pub returns-then-k-le-MAX_LEVELS-2 : goal.returns-then-k-le-MAX_LEVELS-2
returns-then-k-le-MAX_LEVELS-2 c = rw valid_by (grind arith)

pub returns-else-k-le-MAX_LEVELS-2 : goal.returns-else-k-le-MAX_LEVELS-2
returns-else-k-le-MAX_LEVELS-2 c = rw valid_by (grind arith)
