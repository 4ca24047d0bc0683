use Rattle.std.proofs.Common.{ap, refl, ◌∙◌}
use Rattle.model.specs.Numbers.{max_frame}
use Rattle.model.specs.Values.{Outcome}
use Rattle.model.specs.Service11.{reset, service11}
use Rattle.service.specs.Fitted.{fitted_effect}
use Rattle.service.specs.Seen.{asking, handed}
use Rattle.management.specs.Later.{later11}
use Rattle.service.proofs.Effects.{serves_refused, serves_acted, seen}
use Rattle.management.proofs.service11.service11.Goals as goal

pub returns-in-Err : goal.returns-in-Err
returns-in-Err c = let a = c.args in λ v k subs.
    let r = a.request.now in
    let w = asking r.payload.now (handed r.err r.given.now v) in
    serves_refused service11 w _ _ _ _ _ _ _ _ _ c.refused.ensures (c.in-Err.ensures (seen service11 w r.session r.level r.subscriptions r.frames k subs a.room.now)).asked

pub returns-in-Ok : goal.returns-in-Ok
returns-in-Ok c = let a = c.args in λ v k subs.
    let r = a.request.now in
    let w = asking r.payload.now (handed r.err r.given.now v) in
    let u = seen service11 w r.session r.level r.subscriptions r.frames k subs a.room.now in
    let h = c.reset.ensures (handed r.err r.given.now v) k subs r.given.now in
    serves_acted service11 w _ _ _ _ _ _ _ later11 _ _ _ _ (c.in-Ok.ensures u) (record { effect = ap (λ (o : Outcome). fitted_effect max_frame (reset u o)) c.outcome.ensures ∙ h.effect; unseen = h.unseen }) (λ z. refl)
