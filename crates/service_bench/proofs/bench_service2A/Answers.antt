use Rattle.std.proofs.Common.{sym}
use Rattle.service_bench.proofs.bench_service2A.Goals as goal

pub returns : goal.returns
returns c = λ v k. rw (c.told_wanted.ensures, sym c.of.ensures.lent.0, sym c.of.ensures.lent.1) (c.service2A.ensures v k)
