use Rattle.std.proofs.Common.{refl, sym, ◌∙◌}
use Rattle.uds.specs.Table.{row_of}
use Rattle.config.specs.View.{service_at}
use Rattle.dispatch.specs.Rules.{service, guarded}
use Rattle.dispatch.proofs.Routes.{no_row, not-here, here}
use Rattle.asking.specs.Seen.{asked_in}
use Rattle.asking.proofs.Asks.{refused_so, asks_as}
use Rattle.asking.proofs.asked.Goals as goal

pub returns-in_default : goal.returns-in_default
returns-in_default c = λ v. let a = c.args in let w = asked_in a.request.now a.k.now v in
    refused_so (guarded a.sid) w c.none.result 0x11 c.none.ensures (no_row a.sid w (row_of (service_at a.request.now.config.now) c.find_service-row.result) c.find_service-row.ensures.row (rw c.in_default.is refl))

pub returns-then-not-allowed_in : goal.returns-then-not-allowed_in
returns-then-not-allowed_in c = λ v. let a = c.args in let w = asked_in a.request.now a.k.now v in
    refused_so (guarded a.sid) w c.none-then-not-allowed_in.result 0x7F c.none-then-not-allowed_in.ensures (not-here a.sid w (row_of (service_at a.request.now.config.now) c.find_service-row.result) c.find_service-row.ensures.row (service_at a.request.now.config.now c.in-Some.field-0) (rw c.in-Some.is refl) (sym c.allowed_in.ensures ∙ c.if-not-allowed_in.true))

pub returns : goal.returns
returns c = λ v. let a = c.args in let w = asked_in a.request.now a.k.now v in
    asks_as (guarded a.sid) (service a.sid) w c.ask.result (here a.sid w (row_of (service_at a.request.now.config.now) c.find_service-row.result) c.find_service-row.ensures.row (service_at a.request.now.config.now c.in-Some.field-0) (rw c.in-Some.is refl) (sym c.allowed_in.ensures ∙ c.if-not-allowed_in.false)) (c.ask.ensures v)
