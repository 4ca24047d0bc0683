-- The first row whose key is asked for is the first row that the definition means.
use Rattle.std.proofs.Common.{refl}
use Rattle.model.specs.Config.{is_session}
use Rattle.config.specs.View.{session_at, session_count}
use Rattle.uds.specs.Table.{column, is_key}
use Rattle.uds.proofs.Tab.{finds}
use Rattle.config.proofs.find_session.Goals as goal

pub returns : goal.returns
returns c = let a = c.args in
    let w = a.config.now in
    finds (is_session a.session_type) (session_at w) (is_key a.session_type) (column w 6 4) (session_count w) (session_count w) c.find.result (λ i. refl) refl c.find.ensures
