-- The first row whose key is asked for is the first row that the definition means.
use Rattle.std.proofs.Common.{refl}
use Rattle.model.specs.Config.{is_did}
use Rattle.config.specs.View.{did_at, did_count}
use Rattle.uds.specs.Table.{column, is_key}
use Rattle.uds.proofs.Tab.{finds}
use Rattle.config.proofs.find_did.Goals as goal

pub returns : goal.returns
returns c = let a = c.args in
    let w = a.config.now in
    finds (is_did a.identifier) (did_at w) (is_key a.identifier) (column w 278 21) (did_count w) (did_count w) c.find.result (λ i. refl) refl c.find.ensures
