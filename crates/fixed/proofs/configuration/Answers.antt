-- Each call by its promise: the steps are those of the law.
use Rattle.std.proofs.Common.{ap, ◌∙◌}
use Rattle.model.specs.Config.{Config}
use Rattle.model.specs.Fixed.{fixed_session, fixed_did, fourteen}
use Rattle.config.specs.Build.{settled, add_session, add_did, add_level}
use Rattle.fixed.specs.Steps.{fixed_level, add_services}
use Rattle.fixed.proofs.Built.{steps}
use Rattle.fixed.proofs.configuration.Goals as goal

pub returns : goal.returns
returns c =
    c.level.ensures ∙ ap (λ (k : Config). settled (add_level k fixed_level))
    (c.did-2.ensures ∙ ap (λ (k : Config). settled (add_did k (fixed_did 0xF201 0)))
    (c.did.ensures ∙ ap (λ (k : Config). settled (add_did k (fixed_did 0xF190 3)))
    (c.services-served.ensures ∙ ap (λ (k : Config). add_services k fourteen)
    (c.sessions-opened.ensures ∙ ap (λ (k : Config). settled (add_session (settled (add_session k (fixed_session 1))) (fixed_session 3))) c.new.ensures))))
    ∙ steps
