-- The row's words, and whether it keeps the numbers, are the definition's.
use Rattle.std.proofs.Common.{length, rules, ◌≡◌}
use Rattle.config.proofs.Building.{level_made}
use Rattle.config.proofs.build.with_security_level.Goals as goal

pub returns : goal.returns
returns c =
    let a = c.args in
    let l : length a.config ≡ 3006 = search rules in
    level_made a.config c.with_row.result c.level_row.result c.within.result l a.l c.level_row.ensures c.within.ensures c.with_row.ensures
