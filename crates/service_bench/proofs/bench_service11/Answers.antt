use Rattle.std.proofs.Common.{sym}
use Rattle.service_bench.proofs.bench_service11.Goals as goal

pub returns : goal.returns
returns c = λ v k subs. rw (c.told_wanted.ensures, sym c.of.ensures.lent.1) (c.service11.ensures v k subs)
