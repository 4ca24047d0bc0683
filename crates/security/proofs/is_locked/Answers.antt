use Rattle.std.proofs.Common.{ap, ltb, ◌∙◌}
use Rattle.security.proofs.Levels.{lock-said}
use Rattle.security.proofs.is_locked.Goals as goal

pub returns : goal.returns
returns c = let a = c.args in c.is_before.ensures ∙ ap (ltb a.t.0) c.number.ensures ∙ lock-said a.k.now a.level a.t.0
