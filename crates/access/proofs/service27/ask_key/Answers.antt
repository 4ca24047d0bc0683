use Rattle.access.proofs.Access.{key-locked, key-early, key_misfit, asks-key}
use Rattle.access.proofs.service27.ask_key.Goals as goal

pub returns-then-is_locked : goal.returns-then-is_locked
returns-then-is_locked c = λ v. key-locked _ c.requires.0 _ c.is_locked.ensures c.if-is_locked.true

pub returns-then-not-awaits : goal.returns-then-not-awaits
returns-then-not-awaits c = λ v. key-early _ c.requires.0 _ c.is_locked.ensures c.if-is_locked.false c.awaits.ensures c.if-not-awaits.true

pub returns-then-not-key_fits : goal.returns-then-not-key_fits
returns-then-not-key_fits c = λ v. key_misfit _ c.requires.0 _ c.is_locked.ensures c.if-is_locked.false c.awaits.ensures c.if-not-awaits.false c.key_fits.ensures c.if-not-key_fits.true

pub returns : goal.returns
returns c = λ v. asks-key _ c.requires.0 _ c.is_locked.ensures c.if-is_locked.false c.awaits.ensures c.if-not-awaits.false c.key_fits.ensures c.if-not-key_fits.false c.of.ensures c.of-2.ensures
