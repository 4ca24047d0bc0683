-- The loop's invariant: what is left, added to what is built so far, is the whole.
use Rattle.std.proofs.Common.{ap, arith, drop, ◌+◌, ◌∙◌}
use Rattle.model.specs.Config.{Config}
use Rattle.config.specs.View.{config_of}
use Rattle.config.specs.Build.{settled, add_service}
use Rattle.uds.specs.Rows.{service_of}
use Rattle.uds.specs.declared.rows.ServiceConfig.{ServiceConfig}
use Rattle.fixed.specs.Steps.{add_services}
use Rattle.fixed.proofs.Built.{one_more}
use Rattle.fixed.proofs.services.Goals as goal

pub loop-id-preserved : goal.loop-id-preserved
loop-id-preserved c =
    let w = c.loop-id.config in
    let i = c.loop-id.id-index in
    let ids = c.args.ids.now in
    ap (λ (k : Config). add_services k (drop (i + 1) ids)) (c.with_service-next.ensures ∙ ap (λ (s : ServiceConfig). settled (add_service (config_of w) (service_of s))) c.new.ensures)
    ∙ one_more (config_of w) ids i (omega arith) ∙ c.loop-id.invariant
