-- The four counts tell it, whichever ends the test.
use Rattle.std.proofs.Common.{rules, arith}
use Rattle.config.proofs.Limits.{Small, by_counts}
use Rattle.config.proofs.counts_within.Goals as goal

pub returns-then-within-3 : goal.returns-then-within-3
returns-then-within-3 c =
    let w = c.args.words.now in
    let small : Small w = λ j. omega (arith, c.type_inv.words j) in
    search (rules, by_counts w small)

pub returns-else-within-3 : goal.returns-else-within-3
returns-else-within-3 c =
    let w = c.args.words.now in
    let small : Small w = λ j. omega (arith, c.type_inv.words j) in
    search (rules, by_counts w small)
