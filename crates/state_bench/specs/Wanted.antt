-- A reply by number: 0 silent, 1 a payload of n bytes, 2 the code n, 3 the code n however the request was addressed, else pending.
use Rattle.std.specs.Prelude.{ℕ, nat_eq}
use Rattle.model.specs.Tests.{pick}
use Rattle.queue.specs.declared.reply.Reply.{Reply}
use Rattle.queue.specs.declared.reply.Reply.TheVariants.{Silent, Positive, Negative, Always, Pends}

unfoldable pub wanted : ℕ → ℕ → Reply
wanted kind n =
    pick (nat_eq kind 0) Silent
    (pick (nat_eq kind 1) (Positive n)
    (pick (nat_eq kind 2) (Negative n)
    (pick (nat_eq kind 3) (Always n) Pends)))
