use Rattle.std.proofs.Common.{sym}
use Rattle.service_bench.proofs.bench_service22.Goals as goal

pub returns : goal.returns
returns c = λ v. rw (c.told_spoken.ensures, sym c.of.ensures.lent.0, sym c.of.ensures.lent.1) (c.service22.ensures v)
