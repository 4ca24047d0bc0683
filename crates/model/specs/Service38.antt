-- 38 requestFileTransfer: 3 or more; bytes 1 and 2 of the payload are the path's length, high byte first; a path that does not
-- fit is empty, and what follows it is unused; act; the reply is its bytes.
use Rattle.std.specs.Prelude.{ℕ, ◌+◌, List, [], ◌∷◌, length, nat_le}
use Rattle.model.specs.Tests.{pick}
use Rattle.model.specs.Values.{outcome}
use Rattle.model.specs.Frame.{word}
use Rattle.model.specs.Queue.{positive}
use Rattle.model.specs.Service.{Seen, Served, refuses, asks, acted, part}

abbrev pub path_length : List ℕ → ℕ
path_length p = pick (nat_le (3 + word p 1) (length p)) (word p 1) 0

unfoldable pub service38 : Seen → Served
service38 v =
    pick (nat_le 3 (length v.payload)) (asks 0x38 (part 1 1 ∷ part 4 (path_length v.payload) ∷ []) (acted v positive (outcome v.limit v.given))) (refuses v 0x13)
