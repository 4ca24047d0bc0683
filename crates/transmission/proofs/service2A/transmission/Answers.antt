use Rattle.std.proofs.Common.{arith}
use Rattle.service.specs.Seen.{asking, configured, in_session, received_at, received_from, subscribed}
use Rattle.transmission.proofs.Laws2A.{so, cancels, registers}
use Rattle.transmission.proofs.service2A.transmission.Goals as goal

pub returns-then-mode-eq-STOP : goal.returns-then-mode-eq-STOP
returns-then-mode-eq-STOP c = let r = c.args.request.now in λ level v.
    let u = in_session r.session level (received_at r.t.0 (received_from r.src (configured r.config.now (subscribed r.subscriptions c.args.subs.now (asking r.payload.now v))))) in
    so u r.frames c.args.room.now _ _ c.cancel_all.result _ _ (cancels u _ _ c.in-Some.ensures.cases.0 c.if-mode-eq-STOP.true) (c.cancel_all.ensures u)

pub returns : goal.returns
returns c = let r = c.args.request.now in λ level v.
    let w = subscribed r.subscriptions c.args.subs.now (asking r.payload.now v) in
    so (in_session r.session level (received_at r.t.0 (received_from r.src (configured r.config.now w)))) r.frames c.args.room.now _ _ c.register_all.result _ _ (registers _ _ _ c.in-Some.ensures.cases.0 c.if-mode-eq-STOP.false (omega (arith, c.if-mode-lt-SLOW.false)) (omega (arith, c.if-mode-gt-FAST.false))) (c.register_all.ensures level w)
