use Rattle.std.proofs.Common.{rules, tests, arith, ℕ, ◌∙◌}
use Rattle.std.proofs.lemmas.Iterator.{YieldsList-from_range}
use Rattle.std.proofs.lemmas.Iterator.Search.{all_from_yields_List}
use Rattle.model.specs.State.{subscription_valid}
use Rattle.periodic.specs.View.{entry_at}
use Rattle.periodic.proofs.Rows.{all_rows}
use Rattle.periodic.proofs.Laws.{valid-beyond, valid-within}
use Rattle.periodic.proofs.subscriptions_valid.Goals as goal

pub returns-then-count-le-MAX_PERIODIC : goal.returns-then-count-le-MAX_PERIODIC
returns-then-count-le-MAX_PERIODIC c = let a = c.args in
    let f = entry_at a.subs.now in
    valid-within a.subs.now a.count c.all.result (omega arith) (all_from_yields_List (λ (i : ℕ). subscription_valid (f i)) _ _ _ c.all.ensures.ran (YieldsList-from_range 0 a.count a.count (search rules) (search rules)) (λ x b q k. search (rules, tests)) ∙ all_rows subscription_valid f 0 a.count)

pub returns-else-count-le-MAX_PERIODIC : goal.returns-else-count-le-MAX_PERIODIC
returns-else-count-le-MAX_PERIODIC c = let a = c.args in valid-beyond a.subs.now a.count (omega arith)
