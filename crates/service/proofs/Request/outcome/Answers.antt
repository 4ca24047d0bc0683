use Rattle.service.proofs.Laws.{an_error, too_many, the_bytes}
use Rattle.service.proofs.Request.outcome.Goals as goal

pub returns-then-self-ne0 : goal.returns-then-self-ne0
returns-then-self-ne0 c = let a = c.args in
    an_error a.limit a.self.now.err a.self.now.given.now c.if-self-ne0.true

pub returns-then-limit-self : goal.returns-then-limit-self
returns-then-limit-self c = let a = c.args in
    too_many a.limit a.self.now.err a.self.now.given.now c.if-self-ne0.false c.if-limit-self.true

pub returns : goal.returns
returns c = let a = c.args in
    the_bytes a.limit a.self.now.err a.self.now.given.now c.if-self-ne0.false c.if-limit-self.false
