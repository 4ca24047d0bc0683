use Rattle.std.proofs.Common.{ap₂, sym, ℕ, List, ◌∙◌}
use mathlib.Core.Bool.{false≢true}
use Rattle.model.specs.Numbers.{max_frame}
use Rattle.model.specs.Values.{Outcome}
use Rattle.model.specs.Service.{Seen}
use Rattle.service.specs.declared.Request.{Request}
use Rattle.service.specs.Fitted.{fitted_effect}
use Rattle.service.specs.Seen.{asking, handed, configured, in_session, received_at, secured, subscribed}
use Rattle.access.specs.Access.{access27, outcome27, later27}
use Rattle.service.proofs.Effects.{serves_refused, serves_acted}
use Rattle.access.proofs.Access.{refused-access, asks-access}
use Rattle.access.proofs.service27.service27.Goals as goal

-- the request as it is seen, whatever else is: without the words that services change, and with them
abbrev lent : Request → Seen → Seen
lent q v = received_at q.t.0 (asking q.payload.now (configured q.config.now (handed q.err q.given.now v)))

abbrev sees : Request → List ℕ → Seen → List ℕ → Seen
sees q k v subs = in_session q.session q.level (secured k (subscribed q.subscriptions subs (lent q v)))

pub returns-then-not-ready : goal.returns-then-not-ready
returns-then-not-ready c = λ v subs. serves_refused access27 (lent c.args.request.now v) _ _ _ _ _ _ _ _ _ c.refused.ensures (refused-access _ (sym c.ready.ensures ∙ c.if-not-ready.true))

pub returns-in-Err : goal.returns-in-Err
returns-in-Err c = let a = c.args in λ v subs.
    let u = sees a.request.now a.k.now v subs in
    serves_refused access27 (lent a.request.now v) _ _ _ _ _ _ _ _ _ c.refused-in-Err.ensures (asks-access u (sym c.ready.ensures ∙ c.if-not-ready.false) (c.in-Err.ensures u)).asked

pub returns-in-Ok : goal.returns-in-Ok
returns-in-Ok c = let a = c.args in λ v subs.
    let u = sees a.request.now a.k.now v subs in
    let h = c.carried.ensures.0 u subs in
    serves_acted access27 (lent a.request.now v) _ _ _ _ _ _ _ later27 _ _ _ _ (asks-access u (sym c.ready.ensures ∙ c.if-not-ready.false) (c.in-Ok.ensures u))
    (record { effect = ap₂ (λ (x : ℕ) (o : Outcome). fitted_effect max_frame (outcome27 u x o)) (sym c.sub_function-access.ensures) c.outcome.ensures ∙ h.effect; unseen = h.unseen }) (λ z. absurd (false≢true (sym c.carried.ensures.1 ∙ z)))
