-- The first row whose key is asked for is the first row that the definition means.
use Rattle.std.proofs.Common.{refl}
use Rattle.model.specs.Config.{is_service}
use Rattle.config.specs.View.{service_at, service_count}
use Rattle.uds.specs.Table.{column, is_key}
use Rattle.uds.proofs.Tab.{finds}
use Rattle.config.proofs.find_service.Goals as goal

pub returns : goal.returns
returns c = let a = c.args in
    let w = a.config.now in
    finds (is_service a.service_id) (service_at w) (is_key a.service_id) (column w 38 10) (service_count w) (service_count w) c.find.result (λ i. refl) refl c.find.ensures
