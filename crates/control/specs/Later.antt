-- What comes of the outcome of an act, service by service: the definition's effect, where the act is asked.
use Rattle.std.specs.Prelude.{ℕ, List, ◌∷◌, get_or}
use Rattle.model.specs.Tests.{pick}
use Rattle.model.specs.Values.{outcome}
use Rattle.model.specs.Frame.{suppressed, sub_function}
use Rattle.model.specs.Queue.{Reply, silent, positive}
use Rattle.model.specs.Service.{Seen, Effect, acted}
use Rattle.model.specs.Service2F.{controlled}

abbrev pub later2F : Seen → Effect
later2F v = acted v (controlled v) (outcome v.limit v.given)

-- the definition's `routine`, the identifier byte by byte: the same where the payload has them, as `ask31` promises
abbrev pub echoed : Seen → List ℕ → Reply
echoed v b = pick (suppressed v.payload) silent (positive (sub_function v.payload ∷ get_or v.payload 1 0 ∷ get_or v.payload 2 0 ∷ b))

abbrev pub later31 : Seen → Effect
later31 v = acted v (echoed v) (outcome v.limit v.given)
