-- 36 transferData: 1 or more; act; the counter echoed, then the bytes.
use Rattle.std.specs.Prelude.{ℕ, ◌-◌, List, [], ◌∷◌, length, get_or, nat_le}
use Rattle.model.specs.Tests.{pick}
use Rattle.model.specs.Values.{outcome}
use Rattle.model.specs.Queue.{Reply, positive}
use Rattle.model.specs.Service.{Seen, Served, refuses, asks, acted, part}

-- the counter, the bytes
abbrev pub transferred : Seen → List ℕ → Reply
transferred v b = positive (get_or v.payload 0 0 ∷ b)

unfoldable pub service36 : Seen → Served
service36 v =
    pick (nat_le 1 (length v.payload)) (asks 0x36 (part 1 1 ∷ part 2 (length v.payload - 1) ∷ []) (acted v (transferred v) (outcome v.limit v.given))) (refuses v 0x13)
