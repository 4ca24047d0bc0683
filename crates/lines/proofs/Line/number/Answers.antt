use Rattle.std.proofs.Common.{List, ap, rules, ℕ, ◌++◌, ◌∙◌}
use Rattle.lines.specs.View.{text_of, appended, gap}
use Rattle.lines.proofs.Decimal.{fewest}
use Rattle.lines.proofs.Line.number.Goals as goal

pub returns : goal.returns
returns c =
    let t = text_of c.args.self in
    let d = c.decimal-k in
    c.word.ensures ∙ ap (λ (u : List ℕ). appended t (gap t ++ u)) (d.ensures.digits ∙ fewest d.result c.args.n (search rules) d.ensures.len)
