use Rattle.std.proofs.Common.{arith}
use Rattle.periodic.proofs.Laws.{below, register-full, register_known, register-new}
use Rattle.periodic.proofs.register.Goals as goal

pub put-requires : goal.put-requires
put-requires c = let a = c.args in omega (arith, below a.subs.now a.count a.identifier a.client c.find.result c.find.ensures c.in-Some.i c.in-Some.is)

pub returns-in-Some : goal.returns-in-Some
returns-in-Some c = let a = c.args in
    register_known a.subs.now a.count a.identifier a.client a.interval.0 a.t.0 (omega arith) c.find.result c.find.ensures c.plus.result.0 (omega arith) (omega arith) c.put.new.subs c.in-Some.i c.in-Some.is c.put.ensures

pub returns-then-count-eq-MAX_PERIODIC : goal.returns-then-count-eq-MAX_PERIODIC
returns-then-count-eq-MAX_PERIODIC c = let a = c.args in register-full a.subs.now a.count a.identifier a.client a.interval.0 a.t.0 (omega arith) c.find.result c.find.ensures c.in_default.is (omega arith)

pub returns : goal.returns
returns c = let a = c.args in
    register-new a.subs.now a.count a.identifier a.client a.interval.0 a.t.0 (omega arith) c.find.result c.find.ensures c.plus.result.0 (omega arith) (omega arith) c.put-2.new.subs c.in_default.is (omega arith) (rw c.from.ensures at c.put-2.ensures)
