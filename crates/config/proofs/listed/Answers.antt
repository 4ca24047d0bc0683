-- A list is looked through as a table of one word a row; a row number past the end has an empty list.
use Rattle.std.proofs.Common.{ap, min, ℕ, ◌*◌, ◌+◌, ◌∙◌}
use Rattle.model.specs.Tests.{memb}
use Rattle.uds.specs.Table.{tab, column}
use Rattle.uds.proofs.Tab.{listed}
use Rattle.config.proofs.listed.Goals as goal

pub returns : goal.returns
returns c =
    let a = c.args in
    let entry = column a.words.now (a.list.from + a.i * a.list.step + 1) 1 in
    c.is_some.ensures ∙ listed a.session (tab entry 0 c.min-n.result) c.find.result c.find.ensures ∙ ap (λ (n : ℕ). memb a.session (tab entry 0 n)) (c.min-n.ensures ∙ ap (λ (x : ℕ). min x 8) c.cell.ensures)
