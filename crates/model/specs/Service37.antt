-- 37 requestTransferExit: any payload; act; the reply is its bytes.
use Rattle.std.specs.Prelude.{[], ◌∷◌, length}
use Rattle.model.specs.Values.{outcome}
use Rattle.model.specs.Queue.{positive}
use Rattle.model.specs.Service.{Seen, Served, asks, acted, part}

unfoldable pub service37 : Seen → Served
service37 v = asks 0x37 (part 1 (length v.payload) ∷ []) (acted v positive (outcome v.limit v.given))
