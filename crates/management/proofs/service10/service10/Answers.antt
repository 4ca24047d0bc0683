use Rattle.service.specs.Seen.{asking, configured}
use Rattle.management.proofs.Laws.{serves10}
use Rattle.management.proofs.service10.service10.Goals as goal

pub returns : goal.returns
returns c = let r = c.args.request.now in λ v k subs.
    serves10 (asking r.payload.now (configured r.config.now v)) _ _ _ _ _ _ _ c.is_empty.ensures c.if-is_empty.false c.sub_function-kind.ensures _ _ c.find_session-row.ensures.row c.if-is_none.ensures c.timings.ensures c.none.ensures
