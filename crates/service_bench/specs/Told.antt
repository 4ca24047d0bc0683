-- What is told in numbers, as the service said it.
use Rattle.std.specs.Prelude.{nat_eq}
use Rattle.model.specs.Tests.{pick}
use Rattle.queue.specs.declared.reply.Reply.{Reply}
use Rattle.queue.specs.declared.reply.Reply.TheVariants.{Silent, Positive, Negative, Always, Pends}
use Rattle.service.specs.declared.Spoken.{Spoken}
use Rattle.service.specs.declared.Wanted.{Wanted}
use Rattle.service_bench.specs.declared.ToldSpoken.{ToldSpoken}
use Rattle.service_bench.specs.declared.ToldWanted.{ToldWanted}
use Rattle.service_bench.specs.declared.Said.{Said}

-- 0 nothing, 1 a payload of n bytes, 2 the code n, 3 the code n however the request was addressed, else pending
unfoldable pub reply_told : Said → Reply
reply_told s = pick (nat_eq s.kind 0) Silent (pick (nat_eq s.kind 1) (Positive s.n) (pick (nat_eq s.kind 2) (Negative s.n) (pick (nat_eq s.kind 3) (Always s.n) Pends)))

unfoldable pub spoken_told : ToldSpoken → Spoken
spoken_told r = record { reply = reply_told r.reply; act = r.act }

unfoldable pub wanted_told : ToldWanted → Wanted
wanted_told r = record {
  effect = record { reply = reply_told r.reply; session = r.session; level = r.level; subscriptions = r.subscriptions; waits = r.waits; clears_seed = r.clears_seed };
  act = r.act;
}
