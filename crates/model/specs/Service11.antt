-- 11 ecuReset: the act first, then the answer, and then the reset.
use Rattle.std.specs.Prelude.{true, [], ◌∷◌, length, nat_lt}
use Rattle.model.specs.Tests.{pick}
use Rattle.model.specs.Values.{Outcome, bytes, error, outcome}
use Rattle.model.specs.Frame.{suppressed, sub_function}
use Rattle.model.specs.State.{opened, cleared}
use Rattle.model.specs.Queue.{silent, positive}
use Rattle.model.specs.Reply.{refusal}
use Rattle.model.specs.Service.{Seen, Effect, Served, says, refuses, asks, part}

-- session 1, no level held, the seed cleared: once the type is echoed, or suppressed. Where the echo finds no room, all three stay
unfoldable pub reset : Seen → Outcome → Effect
reset v (error code) = says v (refusal code)
reset v (bytes b) = record {
  session = opened v.session 1;
  security = cleared v.security;
  periodic = v.periodic;
  reply = pick (suppressed v.payload) silent (positive (sub_function v.payload ∷ []));
  waits = true;
}

-- absent is short
unfoldable pub service11 : Seen → Served
service11 v = pick (nat_lt (length v.payload) 1) (refuses v 0x13) (asks 0x11 (part 1 1 ∷ []) (reset v (outcome v.limit v.given)))
