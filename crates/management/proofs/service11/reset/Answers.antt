use Rattle.std.proofs.Common.{ap, sym, ◌∙◌}
use Rattle.model.specs.Numbers.{max_frame}
use Rattle.model.specs.Service11.{service11}
use Rattle.service.specs.Fitted.{fitted_effect}
use Rattle.service.specs.Seen.{asking}
use Rattle.service.proofs.Effects.{leaves, leaves-effect, seen}
use Rattle.management.proofs.Laws.{fails11, resets, resets11}
use Rattle.management.proofs.service11.reset.Goals as goal

pub returns-in-Err : goal.returns-in-Err
returns-in-Err c = let a = c.args in λ v k subs b.
    leaves-effect service11 (asking a.request.now.payload.now v) _ a.request.now.level _ _ k _ _ _ _ _ _ _ _ c.says.ensures (leaves _ _ _ _ _ _ _ _ _ (fails11 _ a.outcome _ b c.in-Err.is) c.echoed-reply.ensures)

pub returns-in-Ok : goal.returns-in-Ok
returns-in-Ok c = let a = c.args in λ v k subs b.
    let r = a.request.now in
    let u = seen service11 (asking r.payload.now v) r.session r.level r.subscriptions r.frames k subs a.room.now in
    record {
      effect = ap (fitted_effect max_frame) (resets11 u a.outcome b c.in-Ok.is) ∙ ap (resets u) (sym c.echoed-reply.ensures.reply);
      unseen = c.echoed-reply.ensures.unseen;
    }
