-- 28 communicationControl: 2 or more; act; unless suppressed, the sub-function echoed.
use Rattle.std.specs.Prelude.{ℕ, List, [], ◌∷◌, length, nat_le}
use Rattle.model.specs.Tests.{pick}
use Rattle.model.specs.Values.{outcome}
use Rattle.model.specs.Frame.{suppressed, sub_function}
use Rattle.model.specs.Queue.{Reply, silent, positive}
use Rattle.model.specs.Service.{Seen, Served, refuses, asks, acted, part}

-- the sub-function
abbrev pub communication : Seen → List ℕ → Reply
communication v b = pick (suppressed v.payload) silent (positive (sub_function v.payload ∷ []))

unfoldable pub service28 : Seen → Served
service28 v = pick (nat_le 2 (length v.payload)) (asks 0x28 (part 1 1 ∷ part 2 1 ∷ []) (acted v (communication v) (outcome v.limit v.given))) (refuses v 0x13)
