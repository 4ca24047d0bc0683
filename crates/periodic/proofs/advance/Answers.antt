use Rattle.std.proofs.Common.{arith}
use Rattle.periodic.proofs.Laws.{advance-beyond, advance-past}
use Rattle.periodic.proofs.advance.Goals as goal
use Rattle.periodic.proofs.advance.Goals.{then-count-gt-MAX_PERIODIC-via-then-count-gt-MAX_PERIODIC, then-count-gt-MAX_PERIODIC-via-else-count-gt-MAX_PERIODIC+then-from-i}

pub returns-then-count-gt-MAX_PERIODIC : goal.returns-then-count-gt-MAX_PERIODIC
returns-then-count-gt-MAX_PERIODIC c = let a = c.args in
    elim c.then-count-gt-MAX_PERIODIC.branch [
      | then-count-gt-MAX_PERIODIC-via-then-count-gt-MAX_PERIODIC w ↦ advance-beyond a.subs.now a.count a.i a.t.0 (omega arith)
      | then-count-gt-MAX_PERIODIC-via-else-count-gt-MAX_PERIODIC+then-from-i w ↦ advance-past a.subs.now a.count a.i a.t.0 (omega arith)
    ]
