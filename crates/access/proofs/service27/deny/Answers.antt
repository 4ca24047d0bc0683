use Rattle.std.proofs.Common.{◌∙◌}
use Rattle.access.proofs.Keys.{uncounted, wrong-key, unlockable, locks}
use Rattle.access.proofs.service27.deny.Goals as goal

pub returns-then-not-increment : goal.returns-then-not-increment
returns-then-not-increment c = uncounted c.args.config.now _ _ c.requires c.clear.ensures c.increment.ensures c.if-not-increment.true

pub returns-then-failed_count-most : goal.returns-then-failed_count-most
returns-then-failed_count-most c = wrong-key c.args.config.now _ _ c.requires c.clear.ensures c.increment.ensures c.if-not-increment.false c.failed_count.ensures c.find_security_level-row.ensures.row (c.from-most.ensures ∙ c.max_attempts.ensures) c.if-failed_count-most.true

pub returns-then-not-lock : goal.returns-then-not-lock
returns-then-not-lock c =
    unlockable c.args.config.now _ _ c.requires c.clear.ensures c.increment.ensures c.if-not-increment.false c.failed_count.ensures c.find_security_level-row.ensures.row (c.from-most.ensures ∙ c.max_attempts.ensures) c.if-failed_count-most.false
    c.lockout.ensures c.plus-until.ensures c.lock.ensures c.if-not-lock.true

pub returns : goal.returns
returns c =
    locks c.args.config.now _ _ c.requires c.clear.ensures c.increment.ensures c.if-not-increment.false c.failed_count.ensures c.find_security_level-row.ensures.row (c.from-most.ensures ∙ c.max_attempts.ensures) c.if-failed_count-most.false
    c.lockout.ensures c.plus-until.ensures c.lock.ensures c.if-not-lock.false
