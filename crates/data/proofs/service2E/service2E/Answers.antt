use Rattle.std.proofs.Common.{ap, false, sym}
use Rattle.model.specs.Queue.{positive}
use Rattle.model.specs.Service2E.{written, service2E}
use Rattle.service.specs.Seen.{asking, handed, configured, in_session}
use Rattle.service.proofs.Laws.{acts}
use Rattle.data.specs.Later.{later2E}
use Rattle.data.proofs.service2E.service2E.Goals as goal

pub returns : goal.returns
returns c = let r = c.args.request.now in λ v.
    let u = asking r.payload.now (handed r.err r.given.now (configured r.config.now (in_session r.session r.level v))) in
    c.answered.ensures service2E later2E u (c.ask2E-ask.ensures (handed r.err r.given.now v)) (acts u (written u) _ c.outcome-outcome.result r.given.now false c.first-echo.result.now c.outcome-outcome.ensures (ap positive (sym c.first-echo.ensures)))
