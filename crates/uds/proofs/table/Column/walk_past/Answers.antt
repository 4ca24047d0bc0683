-- The invariant: the answer is that of the rows that are left.
use Rattle.std.proofs.Common.{ap, arith, eq-eqb, ne_eqb, sym, ◌-◌, ◌∙◌}
use Rattle.model.specs.Tests.{place}
use Rattle.uds.specs.Table.{tab, column, is_key}
use Rattle.uds.proofs.Tab.{counted, tab-all, hit, miss}
use Rattle.uds.proofs.table.Column.walk_past.Goals as goal

pub loop-row-init : goal.loop-row-init
loop-row-init c =
    let a = c.args in
    let f = column a.words.now a.self.from a.self.step in
    ap (place (is_key a.key)) (tab-all f a.rows) ∙ counted (is_key a.key) (tab f 0 (a.rows - 0))

pub returns-then-cell-key : goal.returns-then-cell-key
returns-then-cell-key c =
    let a = c.args in
    let l = c.loop-row in
    hit (column a.words.now a.self.from a.self.step) (is_key a.key) a.rows l.row _ l.invariant (omega arith) (eq-eqb _ _ (sym c.cell.ensures ∙ c.if-cell-key.true))

pub loop-row-preserved : goal.loop-row-preserved
loop-row-preserved c =
    let a = c.args in
    let l = c.loop-row in
    miss (column a.words.now a.self.from a.self.step) (is_key a.key) a.rows l.row _ l.invariant (omega arith) (ne_eqb _ _ (λ e. c.if-cell-key.false (c.cell.ensures ∙ e)))
