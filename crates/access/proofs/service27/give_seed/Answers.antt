use Rattle.std.proofs.Common.{arith, sym, ◌∙◌}
use Rattle.config.specs.View.{config_of}
use Rattle.access.proofs.Access.{no_seed, other_length, full-length, given-seed}
use Rattle.access.proofs.service27.give_seed.Goals as goal

pub returns-then-is_err : goal.returns-then-is_err
returns-then-is_err c = λ v. no_seed v _ _ _ _ c.args.outcome (sym c.is_err.ensures.value ∙ c.if-is_err.true) _

pub returns-then-given-seed_length : goal.returns-then-given-seed_length
returns-then-given-seed_length c = let a = c.args in λ v.
    other_length v _ _ _ _ (config_of a.request.now.config.now) c.find_security_level-row.ensures.row c.seed_length.ensures a.outcome (sym c.is_err.ensures.value ∙ c.if-is_err.false) c.if-given-seed_length.true c.clear.ensures

pub returns-then-given-ge-MAX_SEED : goal.returns-then-given-ge-MAX_SEED
returns-then-given-ge-MAX_SEED c = let a = c.args in λ v.
    full-length v _ _ _ _ (config_of a.request.now.config.now) c.find_security_level-row.ensures.row c.seed_length.ensures c.if-given-seed_length.false a.outcome (sym c.is_err.ensures.value ∙ c.if-is_err.false) (omega (arith, c.if-given-ge-MAX_SEED.true)) c.clear-then-given-ge-MAX_SEED.ensures

pub returns : goal.returns
returns c = let a = c.args in λ v.
    given-seed v _ _ _ _ (config_of a.request.now.config.now) c.find_security_level-row.ensures.row c.seed_length.ensures c.if-given-seed_length.false a.outcome (sym c.is_err.ensures.value ∙ c.if-is_err.false) (omega (arith, c.if-given-ge-MAX_SEED.false)) c.seed.ensures c.joined.ensures
