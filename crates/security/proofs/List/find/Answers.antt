use Rattle.std.proofs.Common.{ap, arith, eqb, get_or, refl, rules, sym, tests, ◌*◌, ◌+◌, ◌∙◌}
use Rattle.std.proofs.lemmas.Iterator.{YieldsList-from_range}
use Rattle.std.proofs.lemmas.Iterator.Search.{find_from_yields_List}
use Rattle.uds.specs.Table.{is_key}
use Rattle.security.specs.View.{row_at}
use Rattle.security.proofs.Ranges.{found}
use Rattle.security.proofs.Words.{row_here}
use Rattle.security.proofs.Levels.{among}
use Rattle.security.proofs.List.find.Goals as goal

pub returns-clause-place : goal.returns-clause-place
returns-clause-place c =
    let a = c.args in
    let w = a.k.now in
    let n = get_or w a.self.counter 0 in
    found (is_key a.level) (row_at w a.self.from) _ n (λ i h. ap (is_key a.level) (row_here w a.self.from i (a.self.from + 2 * i) (omega arith) refl)) c.find.result
    (find_from_yields_List (λ i. eqb (get_or w (a.self.from + 2 * i) 0) a.level) _ _ _ c.find.ensures.ran (YieldsList-from_range 0 n n refl (omega arith)) (λ x b q k. search (rules, tests)))
    ∙ sym (among w a.self.counter a.self.from a.level (omega arith))
