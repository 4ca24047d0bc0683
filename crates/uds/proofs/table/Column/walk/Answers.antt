-- The invariant: the answer is that of the rows that are left, and the place is theirs.
use Rattle.std.proofs.Common.{ap, arith, eq-eqb, get_or, ne_eqb, sym, zero-mul, ℕ, ◌-◌, ◌∙◌}
use Rattle.model.specs.Tests.{place}
use Rattle.uds.specs.Table.{tab, column, is_key}
use Rattle.uds.proofs.Tab.{counted, tab-all, hit, miss, next_row}
use Rattle.uds.proofs.table.Column.walk.Goals as goal

pub loop-i-init : goal.loop-i-init
loop-i-init c =
    let a = c.args in
    let f = column a.words.now a.self.from a.self.step in
    (omega (arith, zero-mul a.self.step), ap (place (is_key a.key)) (tab-all f a.rows) ∙ counted (is_key a.key) (tab f 0 (a.rows - 0)))

pub returns-then-words-at : goal.returns-then-words-at
returns-then-words-at c =
    let a = c.args in
    let l = c.loop-i in
    hit (column a.words.now a.self.from a.self.step) (is_key a.key) a.rows l.i _ l.invariant.1 (omega arith) (eq-eqb _ _ (ap (λ (x : ℕ). get_or a.words.now x 0) (sym l.invariant.0) ∙ c.if-words-at.true))

pub loop-i-preserved : goal.loop-i-preserved
loop-i-preserved c =
    let a = c.args in
    let l = c.loop-i in
    (omega (arith, next_row l.i a.self.step, l.invariant.0), miss (column a.words.now a.self.from a.self.step) (is_key a.key) a.rows l.i _ l.invariant.1 (omega arith) (ne_eqb _ _ (λ e. c.if-words-at.false (ap (λ (x : ℕ). get_or a.words.now x 0) l.invariant.0 ∙ e))))
