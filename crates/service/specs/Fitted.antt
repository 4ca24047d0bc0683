-- A reply is made in the free place of the room, which holds 256 bytes of it. One that is found too long in the making is said as 0x14 at once;
-- carried out, it is what the positive reply would have become (`proofs/Fitted`).
use Rattle.std.specs.Prelude.{ℕ, length, nat_le}
use Rattle.model.specs.Tests.{pick}
use Rattle.model.specs.Queue.{Reply, silent, positive, negative, always, pends}
use Rattle.model.specs.Service.{Effect, Served}

abbrev pub fitted_reply : ℕ → Reply → Reply
fitted_reply limit silent = silent
fitted_reply limit (positive p) = pick (nat_le (length p) limit) (positive p) (negative 0x14)
fitted_reply limit (negative code) = negative code
fitted_reply limit (always code) = always code
fitted_reply limit pends = pends

abbrev pub fitted_effect : ℕ → Effect → Effect
fitted_effect limit e = record { session = e.session; security = e.security; periodic = e.periodic; reply = fitted_reply limit e.reply; waits = e.waits }

abbrev pub fitted : ℕ → Served → Served
fitted limit a = record { act = a.act; effect = fitted_effect limit a.effect }
