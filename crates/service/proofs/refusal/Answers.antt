use Rattle.std.proofs.Common.{ne_eqb, refl}
use Rattle.model.specs.Reply as Rules
use Rattle.service.proofs.refusal.Goals as goal

pub returns-then-code-eq-REQUEST_CORRECTLY_RECEIVED_RESPONSE_PENDING : goal.returns-then-code-eq-REQUEST_CORRECTLY_RECEIVED_RESPONSE_PENDING
unfolding Rules.refusal
returns-then-code-eq-REQUEST_CORRECTLY_RECEIVED_RESPONSE_PENDING c = λ count room. rw c.if-code-eq-REQUEST_CORRECTLY_RECEIVED_RESPONSE_PENDING.true refl

pub returns : goal.returns
unfolding Rules.refusal
returns c = λ count room. rw (ne_eqb _ _ c.if-code-eq-REQUEST_CORRECTLY_RECEIVED_RESPONSE_PENDING.false) refl
