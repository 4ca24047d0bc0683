use Rattle.std.proofs.Common.{ap, arith, get_or, refl, rules, tests, ◌*◌, ◌+◌, ◌∙◌}
use Rattle.std.proofs.lemmas.Iterator.{YieldsList-from_range}
use Rattle.std.proofs.lemmas.Iterator.Search.{all_from_yields_List}
use Rattle.model.specs.State.{moment_valid, lock_valid}
use Rattle.security.specs.View.{lock_at}
use Rattle.security.proofs.Ranges.{all_passed}
use Rattle.security.proofs.Words.{row_here}
use Rattle.security.proofs.locks_valid.Goals as goal

pub returns : goal.returns
returns c =
    let a = c.args in
    let w = a.k.now in
    all_from_yields_List (λ i. moment_valid (get_or w (53 + 2 * i) 0)) _ _ _ c.all.ensures.ran (YieldsList-from_range 0 a.n a.n refl (omega arith)) (λ x b q k. search (rules, tests))
    ∙ all_passed lock_valid (lock_at w) _ 0 a.n (λ i h. ap moment_valid (row_here w 53 i (53 + 2 * i) (omega (arith, c.requires)) refl))
