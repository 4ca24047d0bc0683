use Rattle.std.proofs.Common.{List, ap, ℕ, ◌∙◌}
use Rattle.lines.specs.View.{text_of, appended, gap}
use Rattle.lines.proofs.Laws.{more}
use Rattle.lines.proofs.Line.word.Goals as goal

pub returns : goal.returns
returns c =
    let a = c.args in
    let t = text_of a.self in
    c.text.ensures ∙ ap (λ (u : List ℕ). appended u a.text.now) c.gap.ensures ∙ more t (gap t) a.text.now
