-- 31 routineControl: 3 or more; act; unless suppressed, sub-function and two identifier bytes before the bytes.
use Rattle.std.specs.Prelude.{ℕ, ◌-◌, List, [], ◌∷◌, ◌++◌, length, take, drop, nat_le}
use Rattle.model.specs.Tests.{pick}
use Rattle.model.specs.Values.{outcome}
use Rattle.model.specs.Frame.{suppressed, sub_function}
use Rattle.model.specs.Queue.{Reply, silent, positive}
use Rattle.model.specs.Service.{Seen, Served, refuses, asks, acted, part}

-- the sub-function, the identifier, the bytes
abbrev pub routine : Seen → List ℕ → Reply
routine v b = pick (suppressed v.payload) silent (positive (sub_function v.payload ∷ take 2 (drop 1 v.payload) ++ b))

unfoldable pub service31 : Seen → Served
service31 v =
    pick (nat_le 3 (length v.payload))
    (asks 0x31 (part 1 1 ∷ part 2 2 ∷ part 4 (length v.payload - 3) ∷ []) (acted v (routine v) (outcome v.limit v.given)))
    (refuses v 0x13)
