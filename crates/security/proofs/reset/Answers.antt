use Rattle.std.proofs.Common.{rules}
use Rattle.security.proofs.Levels.{reset_one, reset-none}
use Rattle.security.proofs.reset.Goals as goal

pub returns-in-Some : goal.returns-in-Some
returns-in-Some c = let a = c.args in reset_one a.k.now a.level c.find.result c.find.ensures.place c.in-Some.i c.in-Some.is (search rules)

pub returns-in_default : goal.returns-in_default
returns-in_default c = let a = c.args in reset-none a.k.now a.level c.find.result c.find.ensures.place c.in_default.is
