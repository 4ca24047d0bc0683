-- what a service sees of the arguments
use Rattle.std.proofs.Common.{refl, sym, ◌∙◌}
use Rattle.uds.specs.Table.{row_of}
use Rattle.config.specs.View.{service_at}
use Rattle.service.proofs.Effects.{serves_refused}
use Rattle.dispatch.specs.Rules.{guarded}
use Rattle.dispatch.specs.Seen.{seen_in}
use Rattle.dispatch.proofs.Routes.{rerouted, no_row, not-here, here}
use Rattle.dispatch.proofs.guarded.Goals as goal

pub returns-in_default : goal.returns-in_default
returns-in_default c = let a = c.args in
    let v = seen_in a.request.now a.k.now a.subs.now in
    serves_refused (guarded a.sid) v a.request.now.session a.request.now.level a.request.now.subscriptions a.request.now.frames a.k.now a.subs.now a.room.now 0x11 c.refused.result c.refused.ensures (no_row a.sid v (row_of (service_at a.request.now.config.now) c.find_service-row.result) c.find_service-row.ensures.row (rw c.in_default.is refl))

pub returns-then-not-allowed_in : goal.returns-then-not-allowed_in
returns-then-not-allowed_in c = let a = c.args in
    let v = seen_in a.request.now a.k.now a.subs.now in
    serves_refused (guarded a.sid) v a.request.now.session a.request.now.level a.request.now.subscriptions a.request.now.frames a.k.now a.subs.now a.room.now 0x7F c.refused-then-not-allowed_in.result c.refused-then-not-allowed_in.ensures (not-here a.sid v (row_of (service_at a.request.now.config.now) c.find_service-row.result) c.find_service-row.ensures.row (service_at a.request.now.config.now c.in-Some.field-0) (rw c.in-Some.is refl) (sym c.allowed_in.ensures ∙ c.if-not-allowed_in.true))

pub returns : goal.returns
returns c = let a = c.args in
    let v = seen_in a.request.now a.k.now a.subs.now in
    rerouted (here a.sid v (row_of (service_at a.request.now.config.now) c.find_service-row.result) c.find_service-row.ensures.row (service_at a.request.now.config.now c.in-Some.field-0) (rw c.in-Some.is refl) (sym c.allowed_in.ensures ∙ c.if-not-allowed_in.false)) c.serve.ensures
