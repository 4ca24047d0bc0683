use Rattle.std.proofs.Common.{◌∙◌}
use Rattle.security.proofs.Levels.{count-said}
use Rattle.security.proofs.failed_count.Goals as goal

pub returns : goal.returns
returns c = let a = c.args in c.number.ensures ∙ count-said a.k.now a.level
