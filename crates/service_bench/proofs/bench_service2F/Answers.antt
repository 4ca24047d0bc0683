use Rattle.std.proofs.Common.{sym}
use Rattle.service_bench.proofs.bench_service2F.Goals as goal

pub returns : goal.returns
returns c = λ v. let e = c.requested.ensures in rw (c.told_spoken.ensures, sym e.0, sym e.1, sym e.2, sym e.3) (c.service2F.ensures v)
