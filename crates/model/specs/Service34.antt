-- 34 requestDownload: 3 or more; the first byte goes to the act whole; the high nibble of the second is the address length,
-- the low nibble the size length; both must fit, else short. The reply is the act's bytes, of which there may be 64.
use Rattle.std.specs.Prelude.{ℕ, ◌+◌, ◌&&◌, List, [], ◌∷◌, length, get_or, nat_le}
use Rattle.model.specs.Tests.{pick}
use Rattle.model.specs.Numbers.{max_download}
use Rattle.model.specs.Values.{outcome}
use Rattle.model.specs.Frame.{high_nibble, low_nibble}
use Rattle.model.specs.Queue.{positive}
use Rattle.model.specs.Service.{Seen, Served, refuses, asks, acted, part}

abbrev pub address_length : List ℕ → ℕ
address_length p = high_nibble (get_or p 1 0)

abbrev pub size_length : List ℕ → ℕ
size_length p = low_nibble (get_or p 1 0)

unfoldable pub service34 : Seen → Served
service34 v =
    pick (nat_le 3 (length v.payload) && nat_le (2 + address_length v.payload + size_length v.payload) (length v.payload))
    (asks 0x34 (part 1 1 ∷ part 3 (address_length v.payload) ∷ part (3 + address_length v.payload) (size_length v.payload) ∷ []) (acted v positive (outcome max_download v.given)))
    (refuses v 0x13)
