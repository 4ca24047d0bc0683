use Rattle.service.specs.Seen.{asking, configured, received_from, secured, subscribed}
use Rattle.transmission.specs.View2A.{guarded2A}
use Rattle.transmission.proofs.Laws2A.{wanted}
use Rattle.transmission.proofs.service2A.service2A.Goals as goal

pub returns : goal.returns
returns c = let r = c.args.request.now in λ v k.
    wanted guarded2A (received_from r.src (configured r.config.now (subscribed r.subscriptions c.args.subs.now (asking r.payload.now v)))) r.session r.level r.t.0 k c.args.subs.now r.frames c.args.room.now c.guarded-s.result c.says.result c.none.result _ _ c.says.ensures c.none.ensures (c.guarded-s.ensures r.level (secured k v))
