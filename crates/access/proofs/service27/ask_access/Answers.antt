use Rattle.service.specs.Seen.{asking}
use Rattle.access.proofs.Access.{short27, reserved27, odd27, even27}
use Rattle.access.proofs.service27.ask_access.Goals as goal

pub returns-then-is_empty : goal.returns-then-is_empty
returns-then-is_empty c = λ v. short27 _ c.is_empty.ensures c.if-is_empty.true

pub returns-then-access-eq0 : goal.returns-then-access-eq0
returns-then-access-eq0 c = λ v. reserved27 _ c.is_empty.ensures c.if-is_empty.false c.sub_function-access.ensures c.if-access-eq0.true

pub returns-then-access-eq1 : goal.returns-then-access-eq1
returns-then-access-eq1 c = λ v. odd27 _ c.is_empty.ensures c.if-is_empty.false c.sub_function-access.ensures c.if-access-eq0.false c.if-access-eq1.true (c.ask_seed.ensures (asking c.args.request.now.payload.now v))

pub returns : goal.returns
returns c = λ v. even27 _ c.is_empty.ensures c.if-is_empty.false c.sub_function-access.ensures c.if-access-eq0.false c.if-access-eq1.false (c.ask_key.ensures v)
