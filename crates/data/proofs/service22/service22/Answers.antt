use Rattle.service.specs.Seen.{configured, in_session, valued}
use Rattle.data.proofs.Fitted22.{speaks22}
use Rattle.data.proofs.service22.service22.Goals as goal

pub returns : goal.returns
returns c = let r = c.args.request.now in λ v. speaks22 r.payload.now (configured r.config.now (in_session r.session r.level (valued r.values.now r.pool.now v))) r.frames c.args.room.now c.read.result c.none.result _ (c.read.ensures v) c.none.ensures
