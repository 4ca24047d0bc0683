-- 2F inputOutputControlByIdentifier: 3 or more; act; two identifier bytes first, then the bytes.
use Rattle.std.specs.Prelude.{ℕ, ◌-◌, List, [], ◌∷◌, ◌++◌, length, take, nat_le}
use Rattle.model.specs.Tests.{pick}
use Rattle.model.specs.Values.{outcome}
use Rattle.model.specs.Queue.{Reply, positive}
use Rattle.model.specs.Service.{Seen, Served, refuses, asks, acted, part}

-- the identifier, the bytes
abbrev pub controlled : Seen → List ℕ → Reply
controlled v b = positive (take 2 v.payload ++ b)

unfoldable pub service2F : Seen → Served
service2F v =
    pick (nat_le 3 (length v.payload))
    (asks 0x2F (part 1 2 ∷ part 3 1 ∷ part 4 (length v.payload - 3) ∷ []) (acted v (controlled v) (outcome v.limit v.given)))
    (refuses v 0x13)
