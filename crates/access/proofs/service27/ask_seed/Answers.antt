use Rattle.access.proofs.Access.{seed-locked, seed_unknown, asks-seed}
use Rattle.access.proofs.service27.ask_seed.Goals as goal

pub returns-then-is_locked : goal.returns-then-is_locked
returns-then-is_locked c = λ v. seed-locked _ c.requires c.args.level c.is_locked.ensures c.if-is_locked.true

pub returns-then-is_none : goal.returns-then-is_none
returns-then-is_none c = λ v. seed_unknown _ c.requires c.args.level c.is_locked.ensures c.if-is_locked.false _ _ c.find_security_level.ensures.row (rw c.if-is_none.true at c.is_none.ensures)

pub returns : goal.returns
returns c = λ v. asks-seed _ c.requires c.args.level c.is_locked.ensures c.if-is_locked.false _ _ c.find_security_level.ensures.row (rw c.if-is_none.false at c.is_none.ensures) c.of.ensures
