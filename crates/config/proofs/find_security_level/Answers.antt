-- The first row whose key is asked for is the first row that the definition means.
use Rattle.std.proofs.Common.{refl}
use Rattle.model.specs.Config.{is_level}
use Rattle.config.specs.View.{level_at, level_count}
use Rattle.uds.specs.Table.{column, is_key}
use Rattle.uds.proofs.Tab.{finds}
use Rattle.config.proofs.find_security_level.Goals as goal

pub returns : goal.returns
returns c = let a = c.args in
    let w = a.config.now in
    finds (is_level a.level) (level_at w) (is_key a.level) (column w 2966 5) (level_count w) (level_count w) c.find.result (λ i. refl) refl c.find.ensures
