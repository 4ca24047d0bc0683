use Rattle.std.proofs.Common.{[], sym, ◌∷◌}
use Rattle.model.specs.Tests.{pick}
use Rattle.model.specs.Queue.{silent, positive}
use Rattle.model.specs.Service28.{communication, service28}
use Rattle.service.specs.Seen.{asking, handed}
use Rattle.service.proofs.Laws.{acts}
use Rattle.management.specs.Later.{later28}
use Rattle.management.proofs.service28.service28.Goals as goal

pub returns : goal.returns
returns c = let a = c.args in λ v.
    let r = a.request.now in
    let w = handed r.err r.given.now v in
    let u = asking r.payload.now w in
    let shown = c.sub_function-echo.result ∷ [] in
    c.answered.ensures service28 later28 u (c.ask28.ensures w) (acts u (communication u) _ c.outcome-outcome.result r.given.now c.suppressed-suppress.result shown c.outcome-outcome.ensures (rw (sym c.suppressed-suppress.ensures, sym c.sub_function-echo.ensures) (λ i. pick c.suppressed-suppress.result silent (positive shown))))
