-- The range is tested before the error byte, in each way by the law of its end.
use Rattle.std.proofs.Common.{arith, ◌∙◌, ◌≡◌}
use Rattle.uds.specs.Values.{value_at}
use Rattle.uds.proofs.Readings.{missing, outside, long, fails, succeeds}
use Rattle.uds.proofs.values.row_value.Goals as goal

pub returns-in_default : goal.returns-in_default
returns-in_default c = rw c.in_default.is (missing c.args.pool.now c.args.limit)

pub returns-then-pool-end : goal.returns-then-pool-end
returns-then-pool-end c =
    let a = c.args in
    let r = value_at a.values.now c.in-Some.i in
    rw c.in-Some.is (outside a.pool.now a.limit r (omega arith))

pub returns-then-limit-len : goal.returns-then-limit-len
returns-then-limit-len c =
    let a = c.args in
    let r = value_at a.values.now c.in-Some.i in
    rw c.in-Some.is (long a.pool.now a.limit r (omega arith) (omega arith))

pub returns-then-err-ne0 : goal.returns-then-err-ne0
returns-then-err-ne0 c =
    let a = c.args in
    let r = value_at a.values.now c.in-Some.i in
    let e : c.low_byte-err.result ≡ r.err = omega (arith, c.low_byte-err.ensures, c.cell.ensures) in
    rw (c.in-Some.is, e) (fails a.pool.now a.limit r (omega arith) (omega arith) (λ z. c.if-err-ne0.true (e ∙ z)))

pub returns : goal.returns
returns c =
    let a = c.args in
    let r = value_at a.values.now c.in-Some.i in
    rw (c.in-Some.is, c.cell-start.ensures, c.cell-len.ensures) (succeeds a.pool.now a.limit r (omega arith) (omega arith) (omega arith))
