use Rattle.std.proofs.Common.{sym, ◌∙◌}
use Rattle.access.proofs.Access.{refused-access, asks-access}
use Rattle.access.proofs.service27.ask27.Goals as goal

pub returns-then-not-ready : goal.returns-then-not-ready
returns-then-not-ready c = λ v. record { asked = refused-access _ (sym c.ready.ensures ∙ c.if-not-ready.true) }

pub returns : goal.returns
returns c = λ v. asks-access _ (sym c.ready.ensures ∙ c.if-not-ready.false) (c.ask_access.ensures v)
