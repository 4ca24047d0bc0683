use Rattle.std.proofs.Common.{not, ap}
use Rattle.entry.proofs.Gate.{invalid, late, in_time}
use Rattle.entry.proofs.barred.Goals as goal

pub returns-then-not-valid : goal.returns-then-not-valid
returns-then-not-valid c = let a = c.args in invalid a.valid a.t.0 (ap not c.if-not-valid.true)

pub returns-then-t-gt-MAX_TIME : goal.returns-then-t-gt-MAX_TIME
returns-then-t-gt-MAX_TIME c = let a = c.args in late a.valid a.t.0 (ap not c.if-not-valid.false) c.if-t-gt-MAX_TIME.true

pub returns : goal.returns
returns c = let a = c.args in in_time a.valid a.t.0 (ap not c.if-not-valid.false) c.if-t-gt-MAX_TIME.false
